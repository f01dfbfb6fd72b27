-- Well typed statements are what they become without their notes.
use Rattle.std.proofs.Common.{◌≡◌, Bool, true, not, List, [], ◌∷◌, map, refl, sym, ap, subst, ◌∙◌}
use Rattle.std.specs.Prelude.{Option, Some, None, Ok, IfSome, unwrap_or, if◌then◌else◌}
use Rattle.std.specs.Option.{option_map}
use Rattle.std.specs.List.{AllByRecursion}
use Rattle.ckc_base.specs.declared.places.Pos.{Pos}
use Rattle.ckc_base.specs.declared.arithmetic.Mode.{Mode}
use Rattle.ckc_base.specs.Outcomes.{Outcome, unless}
use Rattle.ckc_types.specs.declared.types.CType.{CType}
use Rattle.ckc_syntax.specs.declared.tree.Name.{Name}
use Rattle.ckc_syntax.specs.declared.tree.Act.{Act-F, map-Act, roll-Act, fold-roll-Act}
use Rattle.ckc_syntax.specs.declared.tree.Stmt.{Stmt-F, map-Stmt, ind-Stmt, roll-Stmt, fold-roll-Stmt}
use Rattle.ckc_typed.specs.declared.environment.Globals.{Globals}
use Rattle.ckc_typed.specs.declared.environment.Variable.{Variable}
use Rattle.ckc_typed.specs.declared.typed.Note.{Note}
use Rattle.ckc_typed.specs.Codes.{bad_operands, bad_conversion, bad_target, no_loop}
use Rattle.ckc_typed.specs.Trees.{Act, Stmt, NotedAct, NotedStmt, NotedExpr}
use Rattle.ckc_typed.specs.Types.{is_void, is_scalar}
use Rattle.ckc_typed.specs.Conversions.{converts}
use Rattle.ckc_typed.specs.Expressions.{expr_typed, value_typed}
use Rattle.ckc_typed.specs.Declarations.{local_typed}
use Rattle.ckc_typed.specs.Statements.{OfAct, OfStmt, stated, act_parts, stmt_parts, act_typed, stmt_typed, all_in, part_in, is_target, is_result, target_fits, scalar_fits, scalar_there_fits, result_fits, loop_fits}
use Rattle.ckc_typed_welltyped.specs.Noteless.{bare_decl, bare_expr, bare_act, bare_stmt}
use Rattle.ckc_typed_welltyped.specs.Expressions.{WellTypedExpr}
use Rattle.ckc_typed_welltyped.specs.Statements.{IsAssignment, IsCondition, act_rows, mode_in_form, mode_in, WellTypedAct, WellTypedStmt}
use Rattle.ckc_typed_welltyped.proofs.Bares.{bared_act, bare_act_is, bare_stmt_is}
use Rattle.ckc_base.proofs.Outcomes.{goes, keeps_rule}
use Rattle.ckc_typed_welltyped.proofs.Backs.{expr_back}
use Rattle.ckc_typed_welltyped.proofs.Decls.{value_back, local_back}
use Rattle.ckc_typed_welltyped.proofs.Acts.{ActLayer, act_of, act_rolled, act_out, act_rule_is, stmt_rule_is}
use Rattle.ckc_typed_welltyped.proofs.TypedActs.{target_is}

module _ (globals : Globals) (variables : List Variable) (result : CType) where
  abbrev ActBack : NotedAct → Type 0
  ActBack a = (mode : Mode) (looped : Bool) (at : Pos) → WellTypedAct globals variables result a mode looped → act_typed globals variables result (bare_act a) mode looped at ≡ Ok (stated (mode_in mode a) at a)

  abbrev StmtBack : NotedStmt → Type 0
  StmtBack s = (mode : Mode) (looped : Bool) → WellTypedStmt globals variables result s mode looped → stmt_typed globals variables result (bare_stmt s) mode looped ≡ Ok s

  abbrev KeptAct : Type 0
  KeptAct = (a : NotedAct) × ActBack a

  abbrev KeptStmt : Type 0
  KeptStmt = (s : NotedStmt) × StmtBack s

  abbrev first_of_kept : KeptStmt → NotedStmt
  first_of_kept k = k.0

  abbrev inner_act : Act-F Name Note KeptAct KeptStmt → ActLayer
  inner_act = map-Act Name Note KeptAct KeptStmt NotedAct NotedStmt (λ e. e.0) (λ e. e.0)

  abbrev inner_stmt : Stmt-F Name Note KeptAct KeptStmt → Stmt-F Name Note NotedAct NotedStmt
  inner_stmt = map-Stmt Name Note KeptAct KeptStmt NotedAct NotedStmt (λ e. e.0) (λ e. e.0)

  abbrev judged_act : Act-F Name (Unit {0}) Act Stmt → Act-F Name (Unit {0}) OfAct OfStmt
  judged_act = map-Act Name (Unit {0}) Act Stmt OfAct OfStmt (act_typed globals variables result) (stmt_typed globals variables result)

  abbrev Rows : ActLayer → Mode → Bool → Type 0
  Rows d mode looped = act_rows globals variables result (WellTypedStmt globals variables result) d mode looped

  abbrev expr_of : Mode → NotedExpr → Outcome NotedExpr
  expr_of mode e = expr_typed globals variables mode (bare_expr e)

  abbrev stmt_of : KeptStmt → Mode → Bool → Outcome NotedStmt
  stmt_of k mode looped = stmt_typed globals variables result (bare_stmt k.0) mode looped

  abbrev all_of : Mode → Bool → List KeptStmt → Outcome (List NotedStmt)
  all_of mode looped ks = all_in mode looped (map (stmt_typed globals variables result) (map bare_stmt (map first_of_kept ks)))

  all_back : (ks : List KeptStmt) (mode : Mode) (looped : Bool) → AllByRecursion (λ s. WellTypedStmt globals variables result s mode looped) (map first_of_kept ks) → all_of mode looped ks ≡ Ok (map first_of_kept ks)
  all_back [] mode looped p = refl
  all_back (k ∷ ks) mode looped p = goes (stmt_of k mode looped) _ k.0 _ (k.1 mode looped p.0) (goes (all_of mode looped ks) _ (map first_of_kept ks) _ (all_back ks mode looped p.1) refl)

  abbrev part_of : KeptStmt → Mode → Bool → Outcome (Option NotedStmt)
  part_of k mode looped = part_in mode looped (option_map (stmt_typed globals variables result) (Some (bare_stmt k.0)))

  part_back : (k : KeptStmt) (mode : Mode) (looped : Bool) → WellTypedStmt globals variables result k.0 mode looped → part_of k mode looped ≡ Ok (Some k.0)
  part_back k mode looped p = goes (stmt_of k mode looped) (λ x. Ok (Some x)) k.0 (Some k.0) (k.1 mode looped p) refl

  scalar_back : (at : Pos) (e : NotedExpr) → is_scalar e.note.ctype ≡ true → scalar_fits at e ≡ Ok tt
  scalar_back at e h = keeps_rule {A = Unit {0}} (is_scalar e.note.ctype) (if is_void e.note.ctype then bad_conversion else bad_operands) at (Ok tt) tt h refl

  there_back : (mode : Mode) (at : Pos) (e : Option NotedExpr) → IfSome e (IsCondition globals variables mode) → scalar_there_fits at e ≡ Ok tt
  there_back mode at None p = refl
  there_back mode at (Some e) p = scalar_back at e p.1

  condition_typed : (mode : Mode) (e : Option NotedExpr) → IfSome e (IsCondition globals variables mode) → IfSome e (WellTypedExpr globals variables mode)
  condition_typed mode None p = tt
  condition_typed mode (Some e) p = p.0

  target_back : (mode : Mode) (at : Pos) (e f : NotedExpr) → IsAssignment globals variables mode e f → target_fits globals variables at e f ≡ Ok tt
  target_back mode at e f p =
      keeps_rule {A = Unit {0}} (converts e.note.ctype f) bad_conversion at (unless (not (is_target globals variables e f)) bad_target at (Ok tt)) tt p.converted
      (keeps_rule {A = Unit {0}} (is_target globals variables e f) bad_target at (Ok tt) tt ((target_is globals variables e f).1 p.target) refl)

  act_step : (y : Act-F Name Note KeptAct KeptStmt) (mode : Mode) (looped : Bool) (at : Pos) → Rows (inner_act y) mode looped
      → act_parts globals variables result (judged_act (bared_act Name Note (inner_act y))) mode looped at ≡ Ok (stated (mode_in_form mode (inner_act y)) at (act_of (inner_act y)))
  act_step (Act-F.Block m ks) mode looped at p = goes (all_of (unwrap_or m mode) looped ks) _ (map first_of_kept ks) _ (all_back ks (unwrap_or m mode) looped p) refl
  act_step Act-F.Empty mode looped at p = refl
  act_step (Act-F.Local d) mode looped at p = goes (local_typed globals variables mode (bare_decl d)) _ d _ (local_back globals variables mode d p) refl
  act_step (Act-F.Assign e f) mode looped at p =
      goes (expr_of mode e) _ e _ (expr_back globals variables mode e p.left) (goes (expr_of mode f) _ f _ (expr_back globals variables mode f p.right)
      (goes (target_fits globals variables at e f) _ tt _ (target_back mode at e f p) refl))
  act_step (Act-F.Call e) mode looped at p = goes (expr_of mode e) _ e _ (expr_back globals variables mode e p) refl
  act_step (Act-F.If e k None) mode looped at p =
      goes (expr_of mode e) _ e _ (expr_back globals variables mode e p.0.0) (goes (stmt_of k mode looped) _ k.0 _ (k.1 mode looped p.1)
      (goes (scalar_fits at e) _ tt _ (scalar_back at e p.0.1) refl))
  act_step (Act-F.If e k (Some l)) mode looped at p =
      goes (expr_of mode e) _ e _ (expr_back globals variables mode e p.0.0) (goes (stmt_of k mode looped) _ k.0 _ (k.1 mode looped p.1)
      (goes (part_of l mode looped) _ (Some l.0) _ (part_back l mode looped p.2) (goes (scalar_fits at e) _ tt _ (scalar_back at e p.0.1) refl)))
  act_step (Act-F.While e k) mode looped at p =
      goes (expr_of mode e) _ e _ (expr_back globals variables mode e p.0.0) (goes (stmt_of k mode true) _ k.0 _ (k.1 mode true p.1)
      (goes (scalar_fits at e) _ tt _ (scalar_back at e p.0.1) refl))
  act_step (Act-F.For None e None k) mode looped at p =
      goes (value_typed globals variables mode (option_map bare_expr e)) _ e _ (value_back globals variables mode e (condition_typed mode e p.1)) (goes (stmt_of k mode true) _ k.0 _ (k.1 mode true p.3)
      (goes (scalar_there_fits at e) _ tt _ (there_back mode at e p.1) refl))
  act_step (Act-F.For None e (Some m) k) mode looped at p =
      goes (value_typed globals variables mode (option_map bare_expr e)) _ e _ (value_back globals variables mode e (condition_typed mode e p.1)) (goes (stmt_of k mode true) _ k.0 _ (k.1 mode true p.3)
      (goes (part_of m mode looped) _ (Some m.0) _ (part_back m mode looped p.2) (goes (scalar_there_fits at e) _ tt _ (there_back mode at e p.1) refl)))
  act_step (Act-F.For (Some l) e None k) mode looped at p =
      goes (part_of l mode looped) _ (Some l.0) _ (part_back l mode looped p.0)
      (goes (value_typed globals variables mode (option_map bare_expr e)) _ e _ (value_back globals variables mode e (condition_typed mode e p.1)) (goes (stmt_of k mode true) _ k.0 _ (k.1 mode true p.3)
      (goes (scalar_there_fits at e) _ tt _ (there_back mode at e p.1) refl)))
  act_step (Act-F.For (Some l) e (Some m) k) mode looped at p =
      goes (part_of l mode looped) _ (Some l.0) _ (part_back l mode looped p.0)
      (goes (value_typed globals variables mode (option_map bare_expr e)) _ e _ (value_back globals variables mode e (condition_typed mode e p.1)) (goes (stmt_of k mode true) _ k.0 _ (k.1 mode true p.3)
      (goes (part_of m mode looped) _ (Some m.0) _ (part_back m mode looped p.2) (goes (scalar_there_fits at e) _ tt _ (there_back mode at e p.1) refl))))
  act_step (Act-F.Return e) mode looped at p =
      goes (value_typed globals variables mode (option_map bare_expr e)) _ e _ (value_back globals variables mode e p.0)
      (goes (result_fits result at e) _ tt _ (keeps_rule {A = Unit {0}} (is_result result e) bad_conversion at (Ok tt) tt p.1 refl) refl)
  act_step Act-F.Break mode looped at p = goes (loop_fits looped at) _ tt _ (keeps_rule {A = Unit {0}} looped no_loop at (Ok tt) tt p refl) refl
  act_step Act-F.Continue mode looped at p = goes (loop_fits looped at) _ tt _ (keeps_rule {A = Unit {0}} looped no_loop at (Ok tt) tt p refl) refl
  act_step (Act-F.Check e) mode looped at p =
      goes (expr_of mode e) _ e _ (expr_back globals variables mode e p.0) (goes (scalar_fits at e) _ tt _ (scalar_back at e p.1) refl)
  act_step (Act-F.Bundle ks) mode looped at p = goes (all_of mode looped ks) _ (map first_of_kept ks) _ (all_back ks mode looped p) refl

  act_by : (x : ActLayer) (y : Act-F Name Note KeptAct KeptStmt) → inner_act y ≡ x → ActBack (roll-Act Name Note x)
  act_by x y is mode looped at w =
      ap (λ a. act_typed globals variables result a mode looped at) (bare_act_is Name Note x)
      ∙ ap (λ f. f mode looped at) (fold-roll-Act Name (Unit {0}) OfAct OfStmt (act_parts globals variables result) stmt_parts (bared_act Name Note x))
      ∙ subst (λ z. act_parts globals variables result (judged_act (bared_act Name Note z)) mode looped at ≡ Ok (stated (mode_in_form mode z) at (act_of z))) is
      (act_step y mode looped at (subst (λ z. Rows z mode looped) (sym is) (subst (λ (T : Type 0). T) (ap (λ f. f mode looped) (act_rule_is globals variables result x)) w)))
      ∙ ap (λ a. Ok (stated (mode_in_form mode x) at a)) (sym (act_rolled x))
      ∙ ap (λ d. Ok (stated (mode_in_form mode d) at (roll-Act Name Note x))) (sym (act_out x))

  abbrev noted_as : NotedAct → Pos → Note → NotedStmt
  noted_as a at n = record { body = a; pos = at; note = n }

  stmt_is : (s : NotedStmt) → ActBack s.body → StmtBack s
  stmt_is s back mode looped w =
      let h = subst (λ (T : Type 0). T) (ap (λ f. f mode looped) (stmt_rule_is globals variables result s)) w in
      ap (λ t. stmt_typed globals variables result t mode looped) (bare_stmt_is Name Note s)
      ∙ ap (λ f. f mode looped) (fold-roll-Stmt Name (Unit {0}) OfAct OfStmt (act_parts globals variables result) stmt_parts (record { body = bare_act s.body; pos = s.pos; note = tt }))
      ∙ back mode looped s.pos h.0
      ∙ ap (λ n. Ok (noted_as s.body s.pos n)) (sym h.1)

  stmt_by : (x : Stmt-F Name Note NotedAct NotedStmt) (y : Stmt-F Name Note KeptAct KeptStmt) → inner_stmt y ≡ x → StmtBack (roll-Stmt Name Note x)
  stmt_by x y is = subst (λ z. StmtBack (roll-Stmt Name Note z)) is (stmt_is (roll-Stmt Name Note (inner_stmt y)) y.body.1)

  pub stmt_back : (s : NotedStmt) (mode : Mode) (looped : Bool) → WellTypedStmt globals variables result s mode looped → stmt_typed globals variables result (bare_stmt s) mode looped ≡ Ok s
  stmt_back = ind-Stmt Name Note ActBack StmtBack act_by stmt_by
