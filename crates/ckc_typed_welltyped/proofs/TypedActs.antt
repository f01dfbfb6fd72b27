-- What statements become is well typed, and without its notes it is what it was made of.
use Rattle.std.proofs.Common.{◌≡◌, ◌⊎◌, ◌↔◌, inl, inr, Bool, true, false, not, ◌&&◌, ◌||◌, List, [], ◌∷◌, map, refl, sym, ap, subst, ◌∙◌}
use Rattle.std.specs.Prelude.{Option, Some, None, Ok, IfSome, unwrap_or, if◌then◌else◌}
use Rattle.std.specs.Option.{option_map}
use Rattle.std.specs.List.{AllByRecursion}
use Rattle.ckc_base.specs.declared.places.Pos.{Pos}
use Rattle.ckc_base.specs.declared.arithmetic.Mode.{Mode}
use Rattle.ckc_base.specs.Outcomes.{Outcome, unless}
use Rattle.ckc_types.specs.declared.types.CType.{CType}
use Rattle.ckc_syntax.specs.declared.tree.Name.{Name}
use Rattle.ckc_syntax.specs.declared.tree.Act.{Act-F, map-Act, out-Act, roll-Act, fold-roll-Act}
use Rattle.ckc_syntax.specs.declared.tree.Act.TheVariants as act
use Rattle.ckc_syntax.specs.declared.tree.Stmt.{Stmt-F, map-Stmt, ind-Stmt, roll-Stmt, fold-roll-Stmt}
use Rattle.ckc_typed.specs.declared.environment.Globals.{Globals}
use Rattle.ckc_typed.specs.declared.environment.Variable.{Variable}
use Rattle.ckc_typed.specs.declared.typed.Note.{Note}
use Rattle.ckc_typed.specs.Codes.{bad_operands, bad_conversion, bad_target, no_loop}
use Rattle.ckc_typed.specs.Trees.{Act, Stmt, Expr, NotedStmt, NotedExpr}
use Rattle.ckc_typed.specs.Types.{is_void, is_scalar}
use Rattle.ckc_typed.specs.Conversions.{converts}
use Rattle.ckc_typed.specs.Expressions.{expr_typed, value_typed, is_placed}
use Rattle.ckc_typed.specs.Declarations.{local_typed}
use Rattle.ckc_typed.specs.Statements.{OfAct, OfStmt, stated, act_parts, stmt_parts, act_typed, stmt_typed, all_in, part_in, is_named, is_text_call, is_target, is_result, target_fits, scalar_fits, scalar_there_fits, result_fits, loop_fits}
use Rattle.ckc_typed_welltyped.specs.Noteless.{bare_expr, bare_act, bare_stmt}
use Rattle.ckc_typed_welltyped.specs.Expressions.{WellTypedExpr}
use Rattle.ckc_typed_welltyped.specs.Statements.{IsTarget, IsAssignment, IsCondition, act_rows, mode_in_form, WellTypedAct, WellTypedStmt}
use Rattle.ckc_typed_welltyped.proofs.Bares.{bared_act, bare_act_is, bare_stmt_is}
use Rattle.ckc_base.proofs.Outcomes.{ok_same, made_of, kept_rule, first_holds, second_holds, both_hold}
use Rattle.ckc_typed_welltyped.proofs.TypedNodes.{expr_gives}
use Rattle.ckc_typed_welltyped.proofs.Decls.{value_gives, local_gives}
use Rattle.ckc_typed_welltyped.proofs.Acts.{ActLayer, act_of, act_rolled, act_out, act_rule_is, stmt_rule_is, StmtHolds}

either_is : (named placed other : Bool) → ((named || (placed && not other)) ≡ true) ↔ ((named ≡ true) ⊎ ((placed ≡ true) × (other ≡ false)))
either_is true placed other = (λ e. inl refl, λ p. refl)
either_is false true true = (λ e. absurd cc, λ p. elim p [ inl a ↦ absurd cc | inr b ↦ absurd (sym_false b.1) ])
  where
    sym_false : true ≡ false → ⊥
    sym_false e = cc
either_is false true false = (λ e. inr (refl, refl), λ p. refl)
either_is false false other = (λ e. absurd cc, λ p. elim p [ inl a ↦ a | inr b ↦ b.0 ])

pub target_is : (globals : Globals) (variables : List Variable) (e f : NotedExpr) → (is_target globals variables e f ≡ true) ↔ IsTarget globals variables e f
target_is globals variables e f =
    let r = either_is (is_named globals variables e) (is_placed e) (is_text_call f) in
    (λ h. (first_holds (is_scalar e.note.ctype) _ h, r.0 (second_holds (is_scalar e.note.ctype) _ h)), λ p. both_hold (is_scalar e.note.ctype) _ p.0 (r.1 p.1))

module _ (globals : Globals) (variables : List Variable) (result : CType) where
  abbrev GivesStmt : NotedStmt → Act → Mode → Bool → Pos → Type 0
  GivesStmt s a mode looped at = (bare_act s.body ≡ a) × (s.pos ≡ at) × StmtHolds globals variables result s mode looped

  abbrev ActGives : Act → Type 0
  ActGives a = (mode : Mode) (looped : Bool) (at : Pos) (s : NotedStmt) → act_typed globals variables result a mode looped at ≡ Ok s → GivesStmt s a mode looped at

  abbrev Given : NotedStmt → Stmt → Mode → Bool → Type 0
  Given n s mode looped = (bare_stmt n ≡ s) × WellTypedStmt globals variables result n mode looped

  abbrev StmtGives : Stmt → Type 0
  StmtGives s = (mode : Mode) (looped : Bool) (n : NotedStmt) → stmt_typed globals variables result s mode looped ≡ Ok n → Given n s mode looped

  abbrev KeptAct : Type 0
  KeptAct = (a : Act) × ActGives a

  abbrev KeptStmt : Type 0
  KeptStmt = (s : Stmt) × StmtGives s

  abbrev first_of_kept : KeptStmt → Stmt
  first_of_kept k = k.0

  abbrev inner_act : Act-F Name (Unit {0}) KeptAct KeptStmt → Act-F Name (Unit {0}) Act Stmt
  inner_act = map-Act Name (Unit {0}) KeptAct KeptStmt Act Stmt (λ e. e.0) (λ e. e.0)

  abbrev inner_stmt : Stmt-F Name (Unit {0}) KeptAct KeptStmt → Stmt-F Name (Unit {0}) Act Stmt
  inner_stmt = map-Stmt Name (Unit {0}) KeptAct KeptStmt Act Stmt (λ e. e.0) (λ e. e.0)

  abbrev judged_act : Act-F Name (Unit {0}) Act Stmt → Act-F Name (Unit {0}) OfAct OfStmt
  judged_act = map-Act Name (Unit {0}) Act Stmt OfAct OfStmt (act_typed globals variables result) (stmt_typed globals variables result)

  abbrev judged_stmt : Stmt-F Name (Unit {0}) Act Stmt → Stmt-F Name (Unit {0}) OfAct OfStmt
  judged_stmt = map-Stmt Name (Unit {0}) Act Stmt OfAct OfStmt (act_typed globals variables result) (stmt_typed globals variables result)

  record Made (x : Act-F Name (Unit {0}) Act Stmt) (mode : Mode) (looped : Bool) (at : Pos) (s : NotedStmt) : Type 0 where
    layer : ActLayer
    bare : bared_act Name Note layer ≡ x
    row : act_rows globals variables result (WellTypedStmt globals variables result) layer mode looped
    same : s ≡ stated (mode_in_form mode layer) at (act_of layer)

  act_of_out : (d : ActLayer) → out-Act Name Note (act_of d) ≡ d
  act_of_out d = ap (out-Act Name Note) (sym (act_rolled d)) ∙ act_out d

  pub act_of_holds : (d : ActLayer) (mode : Mode) (looped : Bool) (at : Pos) → act_rows globals variables result (WellTypedStmt globals variables result) d mode looped → StmtHolds globals variables result (stated (mode_in_form mode d) at (act_of d)) mode looped
  act_of_holds d mode looped at r = (
    subst (λ a. WellTypedAct globals variables result a mode looped) (act_rolled d) (subst (λ (T : Type 0). T) (sym (ap (λ f. f mode looped) (act_rule_is globals variables result d))) r),
    ap (λ m. (stated m at (act_of d)).note) (ap (mode_in_form mode) (sym (act_of_out d))),
  )

  act_given : (x : Act-F Name (Unit {0}) Act Stmt) (mode : Mode) (looped : Bool) (at : Pos) (s : NotedStmt) → Made x mode looped at s → GivesStmt s (roll-Act Name (Unit {0}) x) mode looped at
  act_given x mode looped at s m = (
    ap (λ (n : NotedStmt). bare_act n.body) m.same ∙ ap bare_act (sym (act_rolled m.layer)) ∙ bare_act_is Name Note m.layer ∙ ap (roll-Act Name (Unit {0})) m.bare,
    ap (λ (n : NotedStmt). n.pos) m.same,
    subst (λ n. StmtHolds globals variables result n mode looped) (sym m.same) (act_of_holds m.layer mode looped at m.row),
  )

  abbrev all_of : Mode → Bool → List KeptStmt → Outcome (List NotedStmt)
  all_of mode looped ks = all_in mode looped (map (stmt_typed globals variables result) (map first_of_kept ks))

  all_made : (ks : List KeptStmt) (mode : Mode) (looped : Bool) (ns : List NotedStmt) → all_of mode looped ks ≡ Ok ns → (map bare_stmt ns ≡ map first_of_kept ks) × AllByRecursion (λ s. WellTypedStmt globals variables result s mode looped) ns
  all_made [] mode looped ns h = subst (λ zs. (map bare_stmt zs ≡ []) × AllByRecursion (λ s. WellTypedStmt globals variables result s mode looped) zs) (ok_same [] ns h) (refl, tt)
  all_made (k ∷ ks) mode looped ns h =
      let a = made_of (stmt_typed globals variables result k.0 mode looped) _ ns h in let g = k.1 mode looped a.0 a.1 in
      let b = made_of (all_of mode looped ks) _ ns a.2 in let r = all_made ks mode looped b.0 b.1 in
      subst (λ zs. (map bare_stmt zs ≡ k.0 ∷ map first_of_kept ks) × AllByRecursion (λ s. WellTypedStmt globals variables result s mode looped) zs) (ok_same _ ns b.2)
      (ap (λ z. z ∷ map bare_stmt b.0) g.0 ∙ ap (λ zs. k.0 ∷ zs) r.0, (g.1, r.1))

  abbrev part_of : KeptStmt → Mode → Bool → Outcome (Option NotedStmt)
  part_of k mode looped = part_in mode looped (option_map (stmt_typed globals variables result) (Some k.0))

  -- a part that is there
  part_made : (k : KeptStmt) (mode : Mode) (looped : Bool) (p : Option NotedStmt) → part_of k mode looped ≡ Ok p → (n : NotedStmt) × (Some n ≡ p) × Given n k.0 mode looped
  part_made k mode looped p h =
      let a = made_of (stmt_typed globals variables result k.0 mode looped) (λ x. Ok (Some x)) p h in (a.0, ok_same _ p a.2, k.1 mode looped a.0 a.1)

  scalar_holds : (at : Pos) (e : NotedExpr) (u : Unit {0}) → scalar_fits at e ≡ Ok u → is_scalar e.note.ctype ≡ true
  scalar_holds at e u h = (kept_rule {A = Unit {0}} (is_scalar e.note.ctype) (if is_void e.note.ctype then bad_conversion else bad_operands) at (Ok tt) u h).0

  condition_holds : (mode : Mode) (at : Pos) (e : Option NotedExpr) (u : Unit {0}) → scalar_there_fits at e ≡ Ok u → IfSome e (WellTypedExpr globals variables mode) → IfSome e (IsCondition globals variables mode)
  condition_holds mode at None u h w = tt
  condition_holds mode at (Some e) u h w = (w, scalar_holds at e u h)

  assigns : (mode : Mode) (at : Pos) (a b : NotedExpr) (u : Unit {0}) → target_fits globals variables at a b ≡ Ok u → WellTypedExpr globals variables mode a → WellTypedExpr globals variables mode b → IsAssignment globals variables mode a b
  assigns mode at a b u h v w =
      let c = kept_rule {A = Unit {0}} (converts a.note.ctype b) bad_conversion at (unless (not (is_target globals variables a b)) bad_target at (Ok tt)) u h in
      let t = kept_rule {A = Unit {0}} (is_target globals variables a b) bad_target at (Ok tt) u c.1 in
      record { left = v; right = w; converted = c.0; target = (target_is globals variables a b).0 t.0 }

  abbrev expr_of : Mode → Expr → Outcome NotedExpr
  expr_of mode e = expr_typed globals variables mode e

  abbrev stmt_of : KeptStmt → Mode → Bool → Outcome NotedStmt
  stmt_of k mode looped = stmt_typed globals variables result k.0 mode looped

  abbrev same_of : (l : ActLayer) (mode : Mode) (at : Pos) (s : NotedStmt) → Type 0
  same_of l mode at s = s ≡ stated (mode_in_form mode l) at (act_of l)

  act_step : (y : Act-F Name (Unit {0}) KeptAct KeptStmt) (mode : Mode) (looped : Bool) (at : Pos) (r : NotedStmt) → act_parts globals variables result (judged_act (inner_act y)) mode looped at ≡ Ok r → Made (inner_act y) mode looped at r
  act_step (Act-F.Block m ks) mode looped at r h =
      let a = made_of (all_of (unwrap_or m mode) looped ks) _ r h in let g = all_made ks (unwrap_or m mode) looped a.0 a.1 in
      record { layer = Act-F.Block m a.0; bare = ap (λ ss. Act-F.Block m ss) g.0; row = g.1; same = sym (ok_same _ r a.2) }
  act_step Act-F.Empty mode looped at r h = record { layer = Act-F.Empty; bare = refl; row = tt; same = sym (ok_same _ r h) }
  act_step (Act-F.Local d) mode looped at r h =
      let a = made_of (local_typed globals variables mode d) _ r h in let g = local_gives globals variables mode d a.0 a.1 in
      record { layer = Act-F.Local a.0; bare = ap (λ x. Act-F.Local x) g.0; row = g.1; same = sym (ok_same _ r a.2) }
  act_step (Act-F.Assign e f) mode looped at r h =
      let a = made_of (expr_of mode e) _ r h in let g = expr_gives globals variables mode e a.0 a.1 in
      let b = made_of (expr_of mode f) _ r a.2 in let j = expr_gives globals variables mode f b.0 b.1 in
      let u = made_of (target_fits globals variables at a.0 b.0) _ r b.2 in
      record {
        layer = Act-F.Assign a.0 b.0;
        bare = ap (λ x. Act-F.Assign x (bare_expr b.0)) g.0 ∙ ap (λ x. Act-F.Assign e x) j.0;
        row = assigns mode at a.0 b.0 u.0 u.1 g.1 j.1;
        same = sym (ok_same _ r u.2);
      }
  act_step (Act-F.Call e) mode looped at r h =
      let a = made_of (expr_of mode e) _ r h in let g = expr_gives globals variables mode e a.0 a.1 in
      record { layer = Act-F.Call a.0; bare = ap (λ x. Act-F.Call x) g.0; row = g.1; same = sym (ok_same _ r a.2) }
  act_step (Act-F.If e k None) mode looped at r h =
      let a = made_of (expr_of mode e) _ r h in let g = expr_gives globals variables mode e a.0 a.1 in
      let b = made_of (stmt_of k mode looped) _ r a.2 in let f = k.1 mode looped b.0 b.1 in
      let u = made_of (scalar_fits at a.0) _ r b.2 in
      record {
        layer = Act-F.If a.0 b.0 None;
        bare = ap (λ x. Act-F.If x (bare_stmt b.0) None) g.0 ∙ ap (λ x. Act-F.If e x None) f.0;
        row = ((g.1, scalar_holds at a.0 u.0 u.1), f.1, tt);
        same = sym (ok_same _ r u.2);
      }
  act_step (Act-F.If e k (Some l)) mode looped at r h =
      let a = made_of (expr_of mode e) _ r h in let g = expr_gives globals variables mode e a.0 a.1 in
      let b = made_of (stmt_of k mode looped) _ r a.2 in let f = k.1 mode looped b.0 b.1 in
      let c = made_of (part_of l mode looped) _ r b.2 in let p = part_made l mode looped c.0 c.1 in
      let u = made_of (scalar_fits at a.0) _ r c.2 in
      record {
        layer = Act-F.If a.0 b.0 (Some p.0);
        bare = ap (λ x. Act-F.If x (bare_stmt b.0) (Some (bare_stmt p.0))) g.0 ∙ ap (λ x. Act-F.If e x (Some (bare_stmt p.0))) f.0 ∙ ap (λ x. Act-F.If e k.0 (Some x)) p.2.0;
        row = ((g.1, scalar_holds at a.0 u.0 u.1), f.1, p.2.1);
        same = sym (ok_same _ r u.2) ∙ ap (λ x. stated mode at (act.If a.0 b.0 x)) (sym p.1);
      }
  act_step (Act-F.While e k) mode looped at r h =
      let a = made_of (expr_of mode e) _ r h in let g = expr_gives globals variables mode e a.0 a.1 in
      let b = made_of (stmt_of k mode true) _ r a.2 in let f = k.1 mode true b.0 b.1 in
      let u = made_of (scalar_fits at a.0) _ r b.2 in
      record {
        layer = Act-F.While a.0 b.0;
        bare = ap (λ x. Act-F.While x (bare_stmt b.0)) g.0 ∙ ap (λ x. Act-F.While e x) f.0;
        row = ((g.1, scalar_holds at a.0 u.0 u.1), f.1);
        same = sym (ok_same _ r u.2);
      }
  act_step (Act-F.For None e None k) mode looped at r h =
      let a = made_of (value_typed globals variables mode e) _ r h in let g = value_gives globals variables mode e a.0 a.1 in
      let b = made_of (stmt_of k mode true) _ r a.2 in let f = k.1 mode true b.0 b.1 in
      let u = made_of (scalar_there_fits at a.0) _ r b.2 in
      record {
        layer = Act-F.For None a.0 None b.0;
        bare = ap (λ x. Act-F.For None x None (bare_stmt b.0)) g.0 ∙ ap (λ x. Act-F.For None e None x) f.0;
        row = (tt, condition_holds mode at a.0 u.0 u.1 g.1, tt, f.1);
        same = sym (ok_same _ r u.2);
      }
  act_step (Act-F.For None e (Some m) k) mode looped at r h =
      let a = made_of (value_typed globals variables mode e) _ r h in let g = value_gives globals variables mode e a.0 a.1 in
      let b = made_of (stmt_of k mode true) _ r a.2 in let f = k.1 mode true b.0 b.1 in
      let c = made_of (part_of m mode looped) _ r b.2 in let p = part_made m mode looped c.0 c.1 in
      let u = made_of (scalar_there_fits at a.0) _ r c.2 in
      record {
        layer = Act-F.For None a.0 (Some p.0) b.0;
        bare = ap (λ x. Act-F.For None x (Some (bare_stmt p.0)) (bare_stmt b.0)) g.0 ∙ ap (λ x. Act-F.For None e (Some x) (bare_stmt b.0)) p.2.0 ∙ ap (λ x. Act-F.For None e (Some m.0) x) f.0;
        row = (tt, condition_holds mode at a.0 u.0 u.1 g.1, p.2.1, f.1);
        same = sym (ok_same _ r u.2) ∙ ap (λ x. stated mode at (act.For None a.0 x b.0)) (sym p.1);
      }
  act_step (Act-F.For (Some l) e None k) mode looped at r h =
      let d = made_of (part_of l mode looped) _ r h in let q = part_made l mode looped d.0 d.1 in
      let a = made_of (value_typed globals variables mode e) _ r d.2 in let g = value_gives globals variables mode e a.0 a.1 in
      let b = made_of (stmt_of k mode true) _ r a.2 in let f = k.1 mode true b.0 b.1 in
      let u = made_of (scalar_there_fits at a.0) _ r b.2 in
      record {
        layer = Act-F.For (Some q.0) a.0 None b.0;
        bare = ap (λ x. Act-F.For (Some x) (option_map bare_expr a.0) None (bare_stmt b.0)) q.2.0 ∙ ap (λ x. Act-F.For (Some l.0) x None (bare_stmt b.0)) g.0 ∙ ap (λ x. Act-F.For (Some l.0) e None x) f.0;
        row = (q.2.1, condition_holds mode at a.0 u.0 u.1 g.1, tt, f.1);
        same = sym (ok_same _ r u.2) ∙ ap (λ x. stated mode at (act.For x a.0 None b.0)) (sym q.1);
      }
  act_step (Act-F.For (Some l) e (Some m) k) mode looped at r h =
      let d = made_of (part_of l mode looped) _ r h in let q = part_made l mode looped d.0 d.1 in
      let a = made_of (value_typed globals variables mode e) _ r d.2 in let g = value_gives globals variables mode e a.0 a.1 in
      let b = made_of (stmt_of k mode true) _ r a.2 in let f = k.1 mode true b.0 b.1 in
      let c = made_of (part_of m mode looped) _ r b.2 in let p = part_made m mode looped c.0 c.1 in
      let u = made_of (scalar_there_fits at a.0) _ r c.2 in
      record {
        layer = Act-F.For (Some q.0) a.0 (Some p.0) b.0;
        bare = ap (λ x. Act-F.For (Some x) (option_map bare_expr a.0) (Some (bare_stmt p.0)) (bare_stmt b.0)) q.2.0 ∙ ap (λ x. Act-F.For (Some l.0) x (Some (bare_stmt p.0)) (bare_stmt b.0)) g.0
            ∙ ap (λ x. Act-F.For (Some l.0) e (Some x) (bare_stmt b.0)) p.2.0 ∙ ap (λ x. Act-F.For (Some l.0) e (Some m.0) x) f.0;
        row = (q.2.1, condition_holds mode at a.0 u.0 u.1 g.1, p.2.1, f.1);
        same = sym (ok_same _ r u.2) ∙ ap (λ x. stated mode at (act.For x a.0 c.0 b.0)) (sym q.1) ∙ ap (λ x. stated mode at (act.For (Some q.0) a.0 x b.0)) (sym p.1);
      }
  act_step (Act-F.Return e) mode looped at r h =
      let a = made_of (value_typed globals variables mode e) _ r h in let g = value_gives globals variables mode e a.0 a.1 in
      let u = made_of (result_fits result at a.0) _ r a.2 in
      record {
        layer = Act-F.Return a.0;
        bare = ap (λ x. Act-F.Return x) g.0;
        row = (g.1, (kept_rule {A = Unit {0}} (is_result result a.0) bad_conversion at (Ok tt) u.0 u.1).0);
        same = sym (ok_same _ r u.2);
      }
  act_step Act-F.Break mode looped at r h =
      let u = made_of (loop_fits looped at) _ r h in
      record { layer = Act-F.Break; bare = refl; row = (kept_rule {A = Unit {0}} looped no_loop at (Ok tt) u.0 u.1).0; same = sym (ok_same _ r u.2) }
  act_step Act-F.Continue mode looped at r h =
      let u = made_of (loop_fits looped at) _ r h in
      record { layer = Act-F.Continue; bare = refl; row = (kept_rule {A = Unit {0}} looped no_loop at (Ok tt) u.0 u.1).0; same = sym (ok_same _ r u.2) }
  act_step (Act-F.Check e) mode looped at r h =
      let a = made_of (expr_of mode e) _ r h in let g = expr_gives globals variables mode e a.0 a.1 in
      let u = made_of (scalar_fits at a.0) _ r a.2 in
      record { layer = Act-F.Check a.0; bare = ap (λ x. Act-F.Check x) g.0; row = (g.1, scalar_holds at a.0 u.0 u.1); same = sym (ok_same _ r u.2) }
  act_step (Act-F.Bundle ks) mode looped at r h =
      let a = made_of (all_of mode looped ks) _ r h in let g = all_made ks mode looped a.0 a.1 in
      record { layer = Act-F.Bundle a.0; bare = ap (λ ss. Act-F.Bundle ss) g.0; row = g.1; same = sym (ok_same _ r a.2) }

  act_by : (x : Act-F Name (Unit {0}) Act Stmt) (y : Act-F Name (Unit {0}) KeptAct KeptStmt) → inner_act y ≡ x → ActGives (roll-Act Name (Unit {0}) x)
  act_by x y is mode looped at s h =
      act_given x mode looped at s (subst (λ z. Made z mode looped at s) is (act_step y mode looped at s
      (ap (λ z. act_parts globals variables result (judged_act z) mode looped at) is
      ∙ ap (λ f. f mode looped at) (sym (fold-roll-Act Name (Unit {0}) OfAct OfStmt (act_parts globals variables result) stmt_parts x)) ∙ h)))

  abbrev placed_stmt : Act → Pos → Stmt
  placed_stmt a at = record { body = a; pos = at; note = tt }

  stmt_by : (x : Stmt-F Name (Unit {0}) Act Stmt) (y : Stmt-F Name (Unit {0}) KeptAct KeptStmt) → inner_stmt y ≡ x → StmtGives (roll-Stmt Name (Unit {0}) x)
  stmt_by x y is mode looped n h =
      let g = y.body.1 mode looped y.pos n (ap (λ z. stmt_parts (judged_stmt z) mode looped) is ∙ ap (λ f. f mode looped) (sym (fold-roll-Stmt Name (Unit {0}) OfAct OfStmt (act_parts globals variables result) stmt_parts x)) ∙ h) in (
        bare_stmt_is Name Note n ∙ ap (λ a. placed_stmt a n.pos) g.0 ∙ ap (λ p. placed_stmt y.body.0 p) g.1 ∙ ap (roll-Stmt Name (Unit {0})) is,
        subst (λ (T : Type 0). T) (sym (ap (λ f. f mode looped) (stmt_rule_is globals variables result n))) g.2,
      )

  pub stmt_gives : (s : Stmt) (mode : Mode) (looped : Bool) (n : NotedStmt) → stmt_typed globals variables result s mode looped ≡ Ok n → (bare_stmt n ≡ s) × WellTypedStmt globals variables result n mode looped
  stmt_gives = ind-Stmt Name (Unit {0}) ActGives StmtGives act_by stmt_by
