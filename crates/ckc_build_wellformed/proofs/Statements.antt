-- What a statement of a judged text becomes is well formed, by induction over the statement before it is judged.
use Rattle.std.proofs.Common.{◌≡◌, ◌⊎◌, inl, inr, refl, sym, ap, subst, ◌∙◌, arith, ℕ, ◌+◌, Bool, true, false, List, [], ◌∷◌, ◌++◌, append_assoc, map, length}
use Rattle.std.specs.Prelude.{not, ◌&&◌, nat_le, if◌then◌else◌, Option, None, Some, Ok, Err, unwrap_or, IfSome}
use Rattle.std.specs.List.{AllByRecursion, Contains}
use Rattle.std.proofs.lemmas.List.Elements.{Contains-append_left, Contains-append_right}
use Rattle.ckc_base.specs.declared.places.Pos.{Pos}
use Rattle.ckc_base.specs.declared.arithmetic.Mode.{Mode}
use Rattle.ckc_base.specs.Outcomes.{Outcome, bind}
use Rattle.ckc_types.specs.declared.types.CType.{CType}
use Rattle.ckc_syntax.specs.Inside.{all_have, listed, inside_each, inside_if, inside_init}
use Rattle.ckc_syntax.specs.declared.tree.Name.{Name}
use Rattle.ckc_syntax.specs.declared.tree.Name.TheVariants as name
use Rattle.ckc_syntax.specs.declared.tree.Init.TheVariants as init
use Rattle.ckc_syntax.specs.declared.tree.Act.{Act-F, map-Act, out-Act, roll-Act, fold-roll-Act}
use Rattle.ckc_syntax.specs.declared.tree.Act.TheVariants as act
use Rattle.ckc_syntax.specs.declared.tree.Stmt.{Stmt-F, map-Stmt, ind-Stmt, roll-Stmt}
use Rattle.ckc_typed.specs.declared.environment.Globals.{Globals}
use Rattle.ckc_typed.specs.declared.environment.Variable.{Variable}
use Rattle.ckc_typed.specs.declared.typed.Note.{Note}
use Rattle.ckc_typed.specs.declared.typed.Typed.{Typed}
use Rattle.ckc_typed.specs.Expressions.{is_placed}
use Rattle.ckc_typed.specs.Declarations.{is_plain}
use Rattle.ckc_typed.specs.Statements.{is_named, is_result}
use Rattle.ckc_typed.specs.Statics.{Strings, act_strings, strings_of_bounds, strings_of_expr, strings_of_init, strings_of_stmt, strings_of_value}
use Rattle.ckc_syntax.specs.declared.tree.Node.{Node-F, out-Node}
use Rattle.ckc_typed.specs.Trees.{NotedAct, NotedDecl, NotedExpr, NotedInit, NotedLayer, NotedStmt}
use Rattle.ckc_typed.specs.Types.{type_written, is_scalar}
use Rattle.ckc_typed_welltyped.specs.Declarations.{StartsLocal, WellTypedInit}
use Rattle.ckc_typed_welltyped.specs.Expressions.{IsNoted, WellTypedExpr}
use Rattle.ckc_typed_welltyped.specs.Productions.{Given, given_act, given_stmt, begins, steps, callless_expr, callless_value, call_form as is_call_form}
use Rattle.ckc_typed_welltyped.specs.Statements.{IsCondition, IsTarget, act_rows, WellTypedStmt}
use Rattle.ckc_typed_welltyped.proofs.ByParts.{stmt_by_parts}
use Rattle.ckc_build_forms.specs.ckc_blame_steps.specs.ckc_bounds_known.proofs.Reaching.{and_cases}
use Rattle.ckc_build_forms.specs.ckc_blame_steps.specs.ckc_bounds_points.specs.Codes.{bad_bundle, not_contained}
use Rattle.ckc_build_forms.specs.ckc_blame_steps.specs.ckc_bounds_points.specs.Flow.{State}
use Rattle.ckc_build_forms.specs.ckc_blame_steps.specs.ckc_bounds_statements.specs.Paths.{Here, is_good, expr_judged, value_judged, maybe_judged, bounds_judged, init_judged, starts_within, declared_here, decl_judged, stated, sides_judged, behind_stores, stores_judged, is_returned, gone, Branch, Start, branched, for_started, to_step, Path, ActPath, act_declared, all_judged, parts_judged, bundle_judged, part_judged, act_path, stmt_path, path_of_act, path, local_judged, call_judged, return_judged, check_judged, if_judged, while_judged, for_judged, loop_head}
use Rattle.ckc_build_forms.specs.ckc_blame_steps.specs.ckc_bounds_views.specs.Views.{view}
use Rattle.ckc_source.specs.Code.{Target, Right, Code, End, Program, chained}
use Rattle.ckc_build_elaborate.specs.Literals.{literals_of_bounds, literals_of_value}
use Rattle.ckc_build_elaborate.proofs.Counted as counted
use Rattle.ckc_build_elaborate.proofs.Counted.{stmt}
use Rattle.ckc_build_elaborate.specs.Steps.{spot, nowhere, destination_for, destination_of, is_terminated}
use Rattle.ckc_build_elaborate.specs.Statements.{act_code, part_of, one, alone, code_if, literals_if, all_code, all_assigns, turns, stmt_elaborated}
use Rattle.ckc_build_values.specs.Expressions.{literals_of}
use Rattle.ckc_build_values.proofs.Counted.{expr_counted}
use Rattle.ckc_build_forms.specs.ckc_blame_steps.specs.ckc_blame_sound.specs.Safe.{IsSafePart, IsSafe}
use Rattle.ckc_build_forms.specs.ckc_blame_steps.specs.ckc_blame_sound.specs.Settings.{AreStrings, Setting}
use Rattle.ckc_build_forms.specs.ckc_blame_steps.specs.ckc_blame_sound.specs.Words.{exprs_in, exprs_of_act}
use Rattle.ckc_build_forms.specs.ckc_blame_steps.specs.ckc_blame_sound.proofs.Every.{EachExpr, each_follows}
use Rattle.ckc_build_forms.specs.ckc_blame_steps.specs.ckc_blame_sound.proofs.Given.{given_inside, given_are}
use Rattle.ckc_build_forms.specs.ckc_blame_steps.specs.ckc_blame_sound.proofs.Judging.{Gives, bound}
use Rattle.ckc_build_forms.specs.ckc_blame_steps.specs.ckc_blame_sound.proofs.Strings.{strings_in_front, strings_after, strings_inside, strings_rolled}
use Rattle.ckc_build_forms.specs.ckc_blame_steps.specs.ckc_blame_sound.proofs.Words.{exprs_inside, exprs_are}
use Rattle.ckc_build_forms.specs.ckc_blame_steps.specs.ckc_blame_walk.proofs.Layers.{act_paths, declared_are}
use Rattle.ckc_build_forms.proofs.NodesOfStatements.{chained-append}
use Rattle.ckc_build_forms.proofs.StatementParts.{act_inside, part_act, part_if, code_is, assigns_is, kept, if_kept, nothing, some_same, none_some, Layer, act_out, step_off, path_is, fine_parts}
use Rattle.ckc_source_causes.specs.Layouts.{Layout}
use Rattle.ckc_source_causes.specs.WellFormed.{AreWellFormedAssigns, IsWellFormedCode}
use Rattle.ckc_build_wellformed.proofs.Layouts.{layout_of}
use Rattle.ckc_build_wellformed.proofs.Known.{Knows}
use Rattle.ckc_build_wellformed.proofs.Nodes.{is_there_form}
use Rattle.ckc_build_wellformed.proofs.Scalars.{IsValued, converted}
use Rattle.ckc_build_wellformed.proofs.Claims.{IsPart}
use Rattle.ckc_build_wellformed.proofs.Values.{judged_made}
use Rattle.ckc_build_wellformed.proofs.Steps.{HaveParams, Fine, Left, value_formed, target_is, right_is, nowhere_arrives, place_arrives, local_arrives, InitFine, assigned_formed, started_formed, returned_formed, condition_formed}

module _ (globals : Globals) (s : Setting) (g : Program) (knows : Knows globals s g) (callees : HaveParams globals s g) where
  abbrev p : Typed
  p = s.text

  abbrev vs : List Variable
  vs = s.variables

  abbrev L : Layout
  L = layout_of s.text.layout

  abbrev C : Code → Type 0
  C = IsWellFormedCode g L

  -- the static objects from a number on are those of string literals
  abbrev S : ℕ → Strings → Type 0
  S k ss = AreStrings s k ss

  -- those of two parts
  two : (xs ys : Strings) (k n : ℕ) → n ≡ length xs → S k (xs ++ ys) → S k xs × S (k + n) ys
  two xs ys k n many str = (strings_in_front s xs ys k str, strings_after s xs ys k n many str)

  abbrev strings_of_all : List NotedStmt → Strings
  strings_of_all ss = inside_each listed (λ (x : Strings). x) (map strings_of_stmt ss)

  abbrev strings_if : Option NotedStmt → Strings
  strings_if None = []
  strings_if (Some st) = strings_of_stmt st

  if_counted : (o : Option NotedStmt) → literals_if (part_if o) ≡ length (strings_if o)
  if_counted None = refl
  if_counted (Some st) = stmt st

  abbrev Good : NotedExpr → Type 0
  Good = Fine globals s g knows callees

  abbrev Goal : NotedExpr → Type 0
  Goal = Left globals s g knows callees

  abbrev Fits : NotedStmt → Mode → Bool → Type 0
  Fits = WellTypedStmt globals vs s.result

  abbrev AreSafe : List NotedExpr → Type 0
  AreSafe es = (e : NotedExpr) → Contains es e → IsSafe e

  -- what is declared is a local by its name
  abbrev AreLocals : List NotedDecl → Type 0
  AreLocals ds = (d : NotedDecl) → Contains ds d → (m : ℕ) × (d.name ≡ name.Local m)

  -- what is asked of a statement, before it is judged
  pub record Before (st : NotedStmt) (mode : Mode) (looped : Bool) : Type 0 where
    pub typed : Fits st mode looped
    pub safe : AreSafe (exprs_in st)
    pub locals : AreLocals (path st).declared
    pub fine : (given_stmt st).fine ≡ true

  -- the same of what a statement does
  record BeforeAct (x : Layer) (mode : Mode) (looped : Bool) : Type 0 where
    pub typed : act_rows globals vs s.result Fits x mode looped
    pub safe : AreSafe (exprs_of_act (exprs_inside x))
    pub locals : AreLocals (act_declared (act_paths x))
    pub fine : (given_act (given_inside x)).fine ≡ true

  front : (es fs : List NotedExpr) → AreSafe (es ++ fs) → AreSafe es
  front es fs h e c = h e (Contains-append_left es fs e c)

  back : (es fs : List NotedExpr) → AreSafe (es ++ fs) → AreSafe fs
  back es fs h e c = h e (Contains-append_right es fs e c)

  front_locals : (ds cs : List NotedDecl) → AreLocals (ds ++ cs) → AreLocals ds
  front_locals ds cs h d c = h d (Contains-append_left ds cs d c)

  back_locals : (ds cs : List NotedDecl) → AreLocals (ds ++ cs) → AreLocals cs
  back_locals ds cs h d c = h d (Contains-append_right ds cs d c)

  first_safe : (e : NotedExpr) (es : List NotedExpr) → AreSafe (e ∷ es) → IsSafe e
  first_safe e es h = h e (0, omega arith, refl)

  -- ---- what is made

  abbrev StmtForm : NotedStmt → Type 0
  StmtForm st = (k : ℕ) → S k (strings_of_stmt st) → (rest : Code) → C rest → C (chained (stmt_elaborated p vs s.result k st) rest)

  abbrev ListForm : List NotedStmt → Type 0
  ListForm ss = (k : ℕ) → S k (strings_of_all ss) → (rest : Code) → C rest → C (chained (all_code (map part_of ss) p vs s.result k) rest)

  abbrev PartForm : Option NotedStmt → Type 0
  PartForm o = (k : ℕ) → S k (strings_if o) → (rest : Code) → C rest → C (chained (code_if (part_if o) p vs s.result k) rest)

  abbrev AssignForm : NotedStmt → Type 0
  AssignForm st = (k : ℕ) → S k (strings_of_stmt st) → AreWellFormedAssigns g L ((part_of st).assigns p vs k)

  abbrev AssignsAll : List NotedStmt → Type 0
  AssignsAll ss = (k : ℕ) → S k (strings_of_all ss) → AreWellFormedAssigns g L (all_assigns (map part_of ss) p vs k)

  record MadeBy {A : Type 0} (P : A → Type 0) (q : A × Here) : Type 0 where
    pub is : P q.0
    pub off : q.1.counting ≡ false

  made : {A : Type 0} {P : A → Type 0} {q : A × Here} → P q.0 → q.1.counting ≡ false → MadeBy P q
  made h off = record { is = h; off = off }

  record StmtHolds (st : NotedStmt) : Type 0 where
    pub whole : (mode : Mode) (looped : Bool) → Before st mode looped → (here : Here) → here.counting ≡ false → Gives (MadeBy StmtForm) ((path st).judged s.frame s.head here)
    pub part : (mode : Mode) (looped : Bool) → Before st mode looped → (bundle : Pos) (here : Here) → here.counting ≡ false → Gives (MadeBy AssignForm) ((path st).part s.frame bundle here)

  record ActHolds (path : ActPath) (x : Layer) : Type 0 where
    pub whole : (mode : Mode) (looped : Bool) → BeforeAct x mode looped → (at : Pos) (note : Note) (here : Here) → here.counting ≡ false
        → Gives (MadeBy StmtForm) (path.judged s.frame s.head at note here)
    pub part : (mode : Mode) (looped : Bool) → BeforeAct x mode looped → (bundle at : Pos) (note : Note) (here : Here) → here.counting ≡ false
        → Gives (MadeBy AssignForm) (path.part s.frame bundle at note here)

  record AnyAct (a : NotedAct) : Type 0 where
    pub holds : ActHolds (path_of_act a) (out-Act Name Note a)

  abbrev KeptAct : Type 0
  KeptAct = (a : NotedAct) × AnyAct a

  abbrev KeptStmt : Type 0
  KeptStmt = (st : NotedStmt) × StmtHolds st

  abbrev inner_act : Act-F Name Note KeptAct KeptStmt → Layer
  inner_act = map-Act Name Note KeptAct KeptStmt NotedAct NotedStmt (λ e. e.0) (λ e. e.0)

  abbrev inner_stmt : Stmt-F Name Note KeptAct KeptStmt → Stmt-F Name Note NotedAct NotedStmt
  inner_stmt = map-Stmt Name Note KeptAct KeptStmt NotedAct NotedStmt (λ e. e.0) (λ e. e.0)

  abbrev firsts : List KeptStmt → List NotedStmt
  firsts ks = map (λ (k : KeptStmt). k.0) ks

  abbrev ActForm : Layer → Pos → Note → Type 0
  ActForm x at note = (k : ℕ) → S k (act_strings (strings_inside x)) → (rest : Code) → C rest → C (chained (act_code (part_act x) at note.mode p vs s.result k) rest)

  stated_strings : (at : Pos) (note : Note) (x : Layer) (a : NotedAct) → roll-Act Name Note x ≡ a → strings_of_stmt (stated at note a) ≡ act_strings (strings_inside x)
  stated_strings at note x a rolls = ap (λ b. strings_of_stmt (stated at note b)) (sym rolls) ∙ strings_rolled at note x

  stated_form : (at : Pos) (note : Note) (x : Layer) (a : NotedAct) → roll-Act Name Note x ≡ a → ActForm x at note → StmtForm (stated at note a)
  stated_form at note x a rolls h k str rest behind =
      subst (λ (fs : List (Code → Code)). C (chained fs rest)) (sym (code_is p s at note x a k rolls)) (h k (subst (S k) (stated_strings at note x a rolls) str) rest behind)

  -- ---- expressions

  -- what an expression becomes, with what it was
  abbrev GoodOf : NotedExpr → NotedExpr → Type 0
  GoodOf e f = (h : Good f) × (h.before ≡ e)

  each_part : (mode : Mode) (e : NotedExpr) → WellTypedExpr globals vs mode e → IsSafe e → EachExpr (IsPart globals s g mode knows) e
  each_part mode e typed safe =
      each_follows (IsNoted globals vs mode) IsSafePart (IsPart globals s g mode knows) (λ x n w. record { row = n.row; safe = λ c. (w (n.scope ∙ c)).0 }) e typed safe

  expr_of : (mode : Mode) (e : NotedExpr) → WellTypedExpr globals vs mode e → IsValued e → IsSafe e → (here : Here) → here.counting ≡ false → Gives (MadeBy (GoodOf e)) (value_judged s.frame e here)
  unfolding value_judged
  expr_of mode e typed valued safe here off = bound (GoodOf e) (MadeBy (GoodOf e)) (expr_judged s.frame e here) _ (by here.counting off) (λ f h. made h off)
    where
      judged : (o : Outcome NotedExpr) → (view s.frame e).judged here.next here.at ≡ o → Gives (GoodOf e) o
      judged (Ok f) is =
          (record { mode = mode; before = e; at = here.at; part = each_part mode e typed safe; made = judged_made globals s g mode knows e f here.next here.at (each_part mode e typed safe) is; valued = valued }, refl)
      judged (Err r) is = tt

      by : (b : Bool) → b ≡ false → Gives (GoodOf e) (if b then Ok e else (view s.frame e).judged here.next here.at)
      by true h = absurd cc
      by false h = judged ((view s.frame e).judged here.next here.at) refl

  expr_gives : (mode : Mode) (e : NotedExpr) → WellTypedExpr globals vs mode e → IsValued e → IsSafe e → (here : Here) → here.counting ≡ false → Gives (MadeBy Good) (value_judged s.frame e here)
  expr_gives mode e typed valued safe here off = weaker (value_judged s.frame e here) (expr_of mode e typed valued safe here off)
    where
      weaker : (o : Outcome (NotedExpr × Here)) → Gives (MadeBy (GoodOf e)) o → Gives (MadeBy Good) o
      weaker (Ok q) h = made h.is.0 h.off
      weaker (Err r) h = tt

  abbrev GoodIf : Option NotedExpr → Type 0
  GoodIf e = (f : NotedExpr) → e ≡ Some f → Good f

  maybe_gives : (mode : Mode) (e : Option NotedExpr) → IfSome e (WellTypedExpr globals vs mode) → IfSome e IsValued → AreSafe (inside_if listed (λ (e : NotedExpr). e ∷ []) e) → (here : Here) → here.counting ≡ false
      → Gives (MadeBy GoodIf) (maybe_judged s.frame e here)
  maybe_gives mode None typed valued safe here off = made (λ f e. none_some e) off
  maybe_gives mode (Some e) typed valued safe here off =
      bound (MadeBy Good) (MadeBy GoodIf) (value_judged s.frame e here) _ (expr_gives mode e typed valued (first_safe e [] safe) here off) (λ q h. made (λ f is. subst Good (some_same is) h.is) h.off)

  condition_typed : (mode : Mode) (e : Option NotedExpr) → IfSome e (IsCondition globals vs mode) → IfSome e (WellTypedExpr globals vs mode)
  condition_typed mode None h = tt
  condition_typed mode (Some e) h = h.0

  condition_valued : (mode : Mode) (e : Option NotedExpr) → IfSome e (IsCondition globals vs mode) → IfSome e IsValued
  condition_valued mode None h = tt
  condition_valued mode (Some e) h = inr h.1

  -- a call has no place
  call_apart : (x : NotedLayer) → is_call_form x ≡ true → is_there_form x ≡ false
  call_apart (Node-F.Call n es) h = refl
  call_apart (Node-F.Calloc w e u) h = refl
  call_apart x h = absurd cc

  -- ---- sides of an assignment

  abbrev BothGood : NotedStmt → Type 0
  BothGood st = (e : NotedExpr) × (f : NotedExpr) × Goal e × Good f × (at : Pos) × (note : Note) × (st ≡ stated at note (act.Assign e f))

  goal_of : (e q : NotedExpr) → GoodOf e q → is_scalar e.note.ctype ≡ true → (is_named globals vs e ≡ true) ⊎ (is_placed e ≡ true) → Goal q
  goal_of e q h scalar t = record { fine = h.0; scalar = subst (λ (z : NotedExpr). is_scalar z.note.ctype ≡ true) (sym h.1) scalar; target = subst (λ z. (is_named globals vs z ≡ true) ⊎ (is_placed z ≡ true)) (sym h.1) t }

  target_kind : (e f : NotedExpr) → IsTarget globals vs e f → (is_named globals vs e ≡ true) ⊎ (is_placed e ≡ true)
  target_kind e f t = elim t.1 [
    | inl n ↦ inl n
    | inr q ↦ inr q.0
  ]

  sides_give : (e f : NotedExpr) (mode : Mode) (looped : Bool) → BeforeAct (Act-F.Assign e f) mode looped → (at : Pos) (note : Note) (here : Here) → here.counting ≡ false
      → Gives (MadeBy BothGood) (sides_judged s.frame at note e f here)
  sides_give e f mode looped b at note here off =
      bound (MadeBy (GoodOf e)) (MadeBy BothGood) (value_judged s.frame e here) _ (expr_of mode e b.typed.left (inr b.typed.target.0) (first_safe e (f ∷ []) b.safe) here off) (λ q h.
      bound (MadeBy Good) (MadeBy BothGood) (value_judged s.frame f q.1) _ (expr_gives mode f b.typed.right (converted e.note.ctype f b.typed.converted) (b.safe f (1, omega arith, refl)) q.1 h.off) (λ r i.
      made (q.0, r.0, goal_of e q.0 h.is b.typed.target.0 (target_kind e f b.typed.target), i.is, at, note, refl) i.off))

  assign_form : (st : NotedStmt) → BothGood st → StmtForm st
  assign_form st b =
      subst StmtForm (sym b.6)
      (stated_form b.4 b.5 (Act-F.Assign b.0 b.1) (act.Assign b.0 b.1) (act.rolls-Assign b.0 b.1)
      (λ k str rest behind. (let both = two (strings_of_expr b.0) (strings_of_expr b.1) k (literals_of b.0) (expr_counted b.0) str in
      assigned_formed globals s g knows callees (spot b.4 b.5.mode) (destination_of p vs k b.0) (place_arrives globals s g knows callees b.0 b.2 k both.0) (k + literals_of b.0) rest behind b.1 b.3 both.1)))

  assigns_form : (st : NotedStmt) → BothGood st → AssignForm st
  assigns_form st b =
      subst AssignForm (sym b.6)
      (λ k str. (let inner = subst (S k) (stated_strings b.4 b.5 (Act-F.Assign b.0 b.1) (act.Assign b.0 b.1) (act.rolls-Assign b.0 b.1)) str in
      let both = two (strings_of_expr b.0) (strings_of_expr b.1) k (literals_of b.0) (expr_counted b.0) inner in
      subst (λ xs. AreWellFormedAssigns g L xs) (sym (assigns_is p s b.4 b.5 b.0 b.1 k))
      (target_is globals s g knows callees b.0 b.2 k both.0, right_is globals s g knows callees (is_terminated b.0.note.ctype) b.1 b.3 (k + literals_of b.0) both.1, tt)))

  -- ---- lists of statements

  abbrev exprs_each : List KeptStmt → List NotedExpr
  exprs_each ks = inside_each listed (λ (es : List NotedExpr). es) (map exprs_in (firsts ks))

  abbrev declared_each : List KeptStmt → List NotedDecl
  declared_each ks = inside_each listed (λ (v : Path). v.declared) (map path (firsts ks))

  record AllBefore (ks : List KeptStmt) (mode : Mode) (looped : Bool) : Type 0 where
    pub typed : AllByRecursion (λ (st : NotedStmt). Fits st mode looped) (firsts ks)
    pub safe : AreSafe (exprs_each ks)
    pub locals : AreLocals (declared_each ks)
    pub fine : inside_each all_have (λ (g : Given). g.fine) (map given_stmt (firsts ks)) ≡ true

  first_before : (k : KeptStmt) (ks : List KeptStmt) (mode : Mode) (looped : Bool) → AllBefore (k ∷ ks) mode looped → Before k.0 mode looped
  first_before k ks mode looped b = record { typed = b.typed.0; safe = front (exprs_in k.0) (exprs_each ks) b.safe; locals = front_locals (path k.0).declared (declared_each ks) b.locals; fine = (and_cases (given_stmt k.0).fine _ b.fine).0 }

  rest_before : (k : KeptStmt) (ks : List KeptStmt) (mode : Mode) (looped : Bool) → AllBefore (k ∷ ks) mode looped → AllBefore ks mode looped
  rest_before k ks mode looped b = record { typed = b.typed.1; safe = back (exprs_in k.0) (exprs_each ks) b.safe; locals = back_locals (path k.0).declared (declared_each ks) b.locals; fine = (and_cases (given_stmt k.0).fine _ b.fine).1 }

  all_give : (ks : List KeptStmt) (mode : Mode) (looped : Bool) → AllBefore ks mode looped → (here : Here) → here.counting ≡ false → Gives (MadeBy ListForm) (all_judged s.frame s.head (map path (firsts ks)) here)
  unfolding all_judged
  all_give [] mode looped b here off = made (λ k str rest behind. behind) off
  all_give (k ∷ ks) mode looped b here off =
      bound (MadeBy StmtForm) (MadeBy ListForm) _ _ (k.1.whole mode looped (first_before k ks mode looped b) here off) (λ q h.
      bound (MadeBy ListForm) (MadeBy ListForm) _ _ (all_give ks mode looped (rest_before k ks mode looped b) q.1 h.off) (λ r i.
      made (λ j str rest behind.
      let here' = stmt_elaborated p vs s.result j q.0 in
      let later = all_code (map part_of r.0) p vs s.result (j + (part_of q.0).literals) in
      let both = two (strings_of_stmt q.0) (strings_of_all r.0) j (part_of q.0).literals (stmt q.0) str in
      subst C (sym (chained-append here' later rest)) (h.is j both.0 (chained later rest) (i.is (j + (part_of q.0).literals) both.1 rest behind))) i.off))

  appended : (xs ys : List (Target × Right)) → AreWellFormedAssigns g L xs → AreWellFormedAssigns g L ys → AreWellFormedAssigns g L (xs ++ ys)
  appended [] ys f h = h
  appended (x ∷ xs) ys f h = (f.0, f.1, appended xs ys f.2 h)

  parts_give : (ks : List KeptStmt) (mode : Mode) (looped : Bool) → AllBefore ks mode looped → (bundle : Pos) (here : Here) → here.counting ≡ false
      → Gives (MadeBy AssignsAll) (parts_judged s.frame bundle (map path (firsts ks)) here)
  unfolding parts_judged
  parts_give [] mode looped b bundle here off = made (λ k str. tt) off
  parts_give (k ∷ ks) mode looped b bundle here off =
      bound (MadeBy AssignForm) (MadeBy AssignsAll) _ _ (k.1.part mode looped (first_before k ks mode looped b) bundle here off) (λ q h.
      bound (MadeBy AssignsAll) (MadeBy AssignsAll) _ _ (parts_give ks mode looped (rest_before k ks mode looped b) bundle q.1 h.off) (λ r i.
      made (λ j str. (let both = two (strings_of_stmt q.0) (strings_of_all r.0) j (part_of q.0).literals (stmt q.0) str in
      appended ((part_of q.0).assigns p vs j) (all_assigns (map part_of r.0) p vs (j + (part_of q.0).literals)) (h.is j both.0) (i.is (j + (part_of q.0).literals) both.1))) i.off))

  -- ---- parts that may be left out

  abbrev BranchGood : Branch → Type 0
  BranchGood b = Good b.condition

  branch_gives : (mode : Mode) (left : Bool) (e : NotedExpr) → IsCondition globals vs mode e → IsSafe e → (here : Here) → here.counting ≡ false → Gives (MadeBy BranchGood) (branched s.frame left e here)
  branch_gives mode left e typed safe here off = bound (MadeBy Good) (MadeBy BranchGood) _ _ (expr_gives mode e typed.0 (inr typed.1) safe here off) (λ q h. made h.is h.off)

  abbrev StartGood : Start → Type 0
  StartGood b = (f : NotedExpr) → b.condition ≡ Some f → Good f

  start_gives : (mode : Mode) (left continued : Bool) (e : Option NotedExpr) → IfSome e (IsCondition globals vs mode) → AreSafe (inside_if listed (λ (e : NotedExpr). e ∷ []) e) → (here : Here) → here.counting ≡ false
      → Gives (MadeBy StartGood) (for_started s.frame left continued e here)
  start_gives mode left continued e typed safe here off = bound (MadeBy GoodIf) (MadeBy StartGood) _ _ (maybe_gives mode e (condition_typed mode e typed) (condition_valued mode e typed) safe here off) (λ q h. made h.is h.off)

  if_form : (at : Pos) (note : Note) (e : NotedExpr) (q : NotedStmt) (o : Option NotedStmt) → Good e → StmtForm q → PartForm o → ActForm (Act-F.If e q o) at note
  if_form at note e q None h i j k str rest behind =
      let first = strings_in_front s (strings_of_expr e ++ strings_of_stmt q) [] k str in
      let both = two (strings_of_expr e) (strings_of_stmt q) k (literals_of e) (expr_counted e) first in
      (value_formed globals s g knows callees e h k both.0, i _ both.1 End tt, tt, behind)
  if_form at note e q (Some t) h i j k str rest behind =
      let first = strings_in_front s (strings_of_expr e ++ strings_of_stmt q) (strings_of_stmt t) k str in
      let both = two (strings_of_expr e) (strings_of_stmt q) k (literals_of e) (expr_counted e) first in
      let last = strings_after s (strings_of_expr e) (strings_of_stmt q ++ strings_of_stmt t) k (literals_of e) (expr_counted e) (subst (S k) (append_assoc (strings_of_expr e) (strings_of_stmt q) (strings_of_stmt t)) str) in
      (value_formed globals s g knows callees e h k both.0, i _ both.1 End tt, j _ (strings_after s (strings_of_stmt q) (strings_of_stmt t) (k + literals_of e) (part_of q).literals (stmt q) last) End tt, behind)

  for_form : (at : Pos) (note : Note) (o : Option NotedStmt) (e : Option NotedExpr) (t : Option NotedStmt) (u : NotedStmt) → PartForm o → ((f : NotedExpr) → e ≡ Some f → Good f)
      → PartForm t → StmtForm u → ActForm (Act-F.For o e t u) at note
  for_form at note o e t u h f i j k str rest behind = by o t h i str
    where
      module_by : (first step : Option NotedStmt) → PartForm first → PartForm step → S k (((strings_if first ++ strings_of_value e) ++ strings_if step) ++ strings_of_stmt u)
          → C (chained (code_if (part_if first) p vs s.result k ++ one (turns p vs s.result (spot at note.mode) (k + literals_if (part_if first)) e (part_if step) (part_of u))) rest)
      module_by first step a b parts =
          let l = k + literals_if (part_if first) in
          let loop = turns p vs s.result (spot at note.mode) l e (part_if step) (part_of u) in
          let x = two (strings_if first) (strings_of_value e ++ (strings_if step ++ strings_of_stmt u)) k (literals_if (part_if first)) (if_counted first)
          (subst (S k) (append_assoc (strings_if first ++ strings_of_value e) (strings_if step) (strings_of_stmt u) ∙ append_assoc (strings_if first) (strings_of_value e) (strings_if step ++ strings_of_stmt u)) parts) in
          let y = two (strings_of_value e) (strings_if step ++ strings_of_stmt u) l (literals_of_value e) (counted.value e) x.1 in
          let z = two (strings_if step) (strings_of_stmt u) (l + literals_of_value e) (literals_if (part_if step)) (if_counted step) y.1 in
          subst C (sym (chained-append (code_if (part_if first) p vs s.result k) (one loop) rest))
          (a k x.0 (loop rest) (condition_formed globals s g knows callees e f l y.0, j _ z.1 End tt, b _ z.0 End tt, behind))

      by : (o t : Option NotedStmt) → PartForm o → PartForm t → S k (act_strings (strings_inside (Act-F.For o e t u)))
          → C (chained (act_code (part_act (Act-F.For o e t u)) at note.mode p vs s.result k) rest)
      by None None a b parts = module_by None None a b parts
      by None (Some t) a b parts = module_by None (Some t) a b parts
      by (Some o) None a b parts = module_by (Some o) None a b parts
      by (Some o) (Some t) a b parts = module_by (Some o) (Some t) a b parts

  -- ---- bundles

  stores_off : (ss : List NotedStmt) (first : ℕ) (here : Here) → here.counting ≡ false → Gives (λ (h : Here). h.counting ≡ false) (behind_stores s.frame s.head ss first here)
  stores_off ss first here off = bound (λ (at : State). Unit {0}) (λ (h : Here). h.counting ≡ false) _ _ (nothing (stores_judged s.frame s.head ss first here)) (λ at h. off)

  bundle_form : (at : Pos) (note : Note) (ss : List NotedStmt) → AssignsAll ss → ActForm (Act-F.Bundle ss) at note
  bundle_form at note ss a k str rest behind = (a k str, behind)

  bundle_gives : (ks : List KeptStmt) (mode : Mode) (looped : Bool) → AllBefore ks mode looped → (at : Pos) (note : Note) (here : Here) → here.counting ≡ false
      → Gives (MadeBy StmtForm) (bundle_judged s.frame s.head at note (map path (firsts ks)) here)
  unfolding bundle_judged
  bundle_gives ks mode looped b at note here off =
      bound (MadeBy AssignsAll) (MadeBy StmtForm) _ _ (parts_give ks mode looped b at here off) (λ q h.
      if_kept (MadeBy StmtForm) (is_good q.1 q.0) bad_bundle at _ (λ good.
      bound (λ (i : Here). i.counting ≡ false) (MadeBy StmtForm) _ _ (stores_off q.0 here.next q.1 h.off) (λ i o.
      made (stated_form at note (Act-F.Bundle q.0) (act.Bundle q.0) (act.rolls-Bundle q.0) (bundle_form at note q.0 h.is)) o)))

  -- ---- declarations

  abbrev InitGood : NotedInit → Type 0
  InitGood = InitFine globals s g knows callees

  abbrev DeclGood : NotedDecl → Type 0
  DeclGood d = ((m : ℕ) × (d.name ≡ name.Local m)) × InitGood d.init × (is_plain d.length ≡ true)

  init_gives : (mode : Mode) (t : CType) (i : NotedInit) → WellTypedInit globals vs mode i → StartsLocal t i → AreSafe (inside_init listed (λ (e : NotedExpr). e ∷ []) i) → (here : Here) → here.counting ≡ false
      → Gives (MadeBy InitGood) (init_judged s.frame i here)
  init_gives mode t init.Nothing typed starts safe here off = made tt off
  init_gives mode t (init.One e) typed starts safe here off =
      bound (MadeBy Good) (MadeBy InitGood) (value_judged s.frame e here) _ (expr_gives mode e typed (converted t e starts) (first_safe e [] safe) here off) (λ q h. made h.is h.off)
  init_gives mode t (init.Many es) typed starts safe here off = absurd starts

  decl_form : (at : Pos) (note : Note) (d : NotedDecl) → DeclGood d → ActForm (Act-F.Local d) at note
  decl_form at note d good k str rest behind =
      let both = two (strings_of_bounds d.bounds) (strings_of_init (is_plain d.length) d.init) k (literals_of_bounds d.bounds) (counted.bounds d.bounds) str in
      let first = subst (λ b. S (k + literals_of_bounds d.bounds) (strings_of_init b d.init)) good.2 both.1 in
      started_formed globals s g knows callees (spot at note.mode) (destination_for p (type_written d.ctype) d.name)
      (local_arrives globals s g knows callees (type_written d.ctype) d.name good.0) (k + literals_of_bounds d.bounds) rest behind d.init good.1 first

  decl_gives : (d : NotedDecl) (mode : Mode) (looped : Bool) → BeforeAct (Act-F.Local d) mode looped → (here : Here) → here.counting ≡ false → Gives (MadeBy DeclGood) (decl_judged s.frame d here)
  decl_gives d mode looped b here off =
      bound (λ x. Unit {0}) (MadeBy DeclGood) (bounds_judged s.frame d here) _ (nothing (bounds_judged s.frame d here)) (λ x y.
      bound (MadeBy InitGood) (MadeBy DeclGood) (init_judged s.frame d.init here) _ (init_gives mode (type_written d.ctype) d.init b.typed.parts.init b.typed.starts b.safe here off) (λ q h.
      kept (MadeBy DeclGood) (not (starts_within s.frame d.name q.0 here.next q.1)) not_contained d.pos (Ok (record d { init = q.0 }, declared_here s.frame d q.0 q.1))
      (made (b.locals d (0, omega arith, refl), h.is, b.typed.plain) h.off)))

  local_gives : (d : NotedDecl) (mode : Mode) (looped : Bool) → BeforeAct (Act-F.Local d) mode looped → (at : Pos) (note : Note) (here : Here) → here.counting ≡ false
      → Gives (MadeBy StmtForm) (local_judged s.frame at note d here)
  local_gives d mode looped b at note here off =
      bound (MadeBy DeclGood) (MadeBy StmtForm) (decl_judged s.frame d here) _ (decl_gives d mode looped b here off) (λ q h.
      made (stated_form at note (Act-F.Local q.0) (act.Local q.0) (act.rolls-Local q.0) (decl_form at note q.0 h.is)) h.off)

  -- ---- calls, values that are returned, and conditions that are checked

  call_form : (at : Pos) (note : Note) (e : NotedExpr) → Good e → ActForm (Act-F.Call e) at note
  call_form at note e h k str rest behind = assigned_formed globals s g knows callees (spot e.pos note.mode) nowhere (nowhere_arrives globals s g knows callees) k rest behind e h str

  call_gives : (e : NotedExpr) (mode : Mode) (looped : Bool) → BeforeAct (Act-F.Call e) mode looped → (at : Pos) (note : Note) (here : Here) → here.counting ≡ false
      → Gives (MadeBy StmtForm) (call_judged s.frame at note e here)
  call_gives e mode looped b at note here off =
      bound (MadeBy Good) (MadeBy StmtForm) (value_judged s.frame e here) _ (expr_gives mode e b.typed (inl (call_apart (out-Node Name Note e.node) b.fine)) (first_safe e [] b.safe) here off) (λ q h.
      made (stated_form at note (Act-F.Call q.0) (act.Call q.0) (act.rolls-Call q.0) (call_form at note q.0 h.is)) h.off)

  returned_valued : (e : Option NotedExpr) → is_result s.result e ≡ true → IfSome e IsValued
  returned_valued None h = tt
  returned_valued (Some e) h = converted s.result e h

  return_form : (at : Pos) (note : Note) (e : Option NotedExpr) → ((f : NotedExpr) → e ≡ Some f → Good f) → ActForm (Act-F.Return e) at note
  return_form at note None h k str rest behind = (returned_formed globals s g knows callees s.result None h k str, behind)
  return_form at note (Some e) h k str rest behind = (returned_formed globals s g knows callees s.result (Some e) h k str, behind)

  return_gives : (e : Option NotedExpr) (mode : Mode) (looped : Bool) → BeforeAct (Act-F.Return e) mode looped → (at : Pos) (note : Note) (here : Here) → here.counting ≡ false
      → Gives (MadeBy StmtForm) (return_judged s.frame s.head at note e here)
  return_gives e mode looped b at note here off =
      bound (MadeBy GoodIf) (MadeBy StmtForm) (maybe_judged s.frame e here) _ (maybe_gives mode e b.typed.0 (returned_valued e b.typed.1) b.safe here off) (λ q h.
      kept (MadeBy StmtForm) (not (is_returned s.frame s.head q.0 here.next q.1)) not_contained at (Ok (stated at note (act.Return q.0), gone s.frame q.1))
      (made (stated_form at note (Act-F.Return q.0) (act.Return q.0) (act.rolls-Return q.0) (return_form at note q.0 h.is)) h.off))

  check_form : (at : Pos) (note : Note) (e : NotedExpr) → Good e → ActForm (Act-F.Check e) at note
  check_form at note e h k str rest behind = (value_formed globals s g knows callees e h k str, behind)

  check_gives : (e : NotedExpr) (mode : Mode) (looped : Bool) → BeforeAct (Act-F.Check e) mode looped → (at : Pos) (note : Note) (here : Here) → here.counting ≡ false
      → Gives (MadeBy StmtForm) (check_judged s.frame at note e here)
  check_gives e mode looped b at note here off =
      bound (MadeBy Good) (MadeBy StmtForm) (value_judged s.frame e here) _ (expr_gives mode e b.typed.0 (inr b.typed.1) (first_safe e [] b.safe) here off) (λ q h.
      made (stated_form at note (Act-F.Check q.0) (act.Check q.0) (act.rolls-Check q.0) (check_form at note q.0 h.is)) h.off)

  -- ---- statements that there may be, as before they are judged

  abbrev path_if : Option KeptStmt → Option Path
  path_if None = None
  path_if (Some k) = Some (path k.0)

  abbrev FitsIf : Option KeptStmt → Mode → Bool → Type 0
  FitsIf None mode looped = Unit {0}
  FitsIf (Some k) mode looped = Fits k.0 mode looped

  abbrev exprs_if : Option KeptStmt → List NotedExpr
  exprs_if None = []
  exprs_if (Some k) = exprs_in k.0

  abbrev declared_if : Option KeptStmt → List NotedDecl
  declared_if None = []
  declared_if (Some k) = (path k.0).declared

  abbrev fine_if : Option KeptStmt → Bool
  fine_if None = true
  fine_if (Some k) = (given_stmt k.0).fine

  abbrev given_if : Option KeptStmt → Option Given
  given_if None = None
  given_if (Some k) = Some (given_stmt k.0)

  begins_fine : (o : Option KeptStmt) → begins (given_if o) ≡ true → fine_if o ≡ true
  begins_fine None h = refl
  begins_fine (Some k) h = (and_cases (given_stmt k.0).fine _ h).0

  steps_fine : (o : Option KeptStmt) → steps (given_if o) ≡ true → fine_if o ≡ true
  steps_fine None h = refl
  steps_fine (Some k) h = (and_cases (given_stmt k.0).fine _ h).0

  part_gives : (o : Option KeptStmt) (mode : Mode) (looped : Bool) → FitsIf o mode looped → AreSafe (exprs_if o) → AreLocals (declared_if o) → fine_if o ≡ true → (here : Here) → here.counting ≡ false
      → Gives (MadeBy PartForm) (part_judged s.frame s.head (path_if o) here)
  part_gives None mode looped typed safe locals fine here off = made (λ k str rest behind. behind) off
  part_gives (Some k) mode looped typed safe locals fine here off =
      bound (MadeBy StmtForm) (MadeBy PartForm) _ _ (k.1.whole mode looped (record { typed = typed; safe = safe; locals = locals; fine = fine }) here off) (λ q h. made h.is h.off)

  -- ---- branches and loops

  if_gives : (e : NotedExpr) (k : KeptStmt) (m : Option KeptStmt) (mode : Mode) (looped : Bool) → IsCondition globals vs mode e × Fits k.0 mode looped × FitsIf m mode looped
      → AreSafe (((e ∷ []) ++ exprs_in k.0) ++ exprs_if m) → AreLocals ((path k.0).declared ++ declared_if m) → ((callless_expr e && (given_stmt k.0).fine) && fine_if m) ≡ true → (at : Pos) (note : Note) (here : Here) → here.counting ≡ false
      → Gives (MadeBy StmtForm) (if_judged s.frame s.head at note e (path k.0) (path_if m) here)
  if_gives e k m mode looped typed safe locals fine at note here off =
      let f = and_cases (callless_expr e && (given_stmt k.0).fine) (fine_if m) fine in
      let w = front ((e ∷ []) ++ exprs_in k.0) (exprs_if m) safe in
      let first : Before k.0 mode looped = record { typed = typed.1; safe = back (e ∷ []) (exprs_in k.0) w; locals = front_locals (path k.0).declared (declared_if m) locals; fine = (and_cases (callless_expr e) (given_stmt k.0).fine f.0).1 } in
      bound (MadeBy BranchGood) (MadeBy StmtForm) (branched s.frame false e here) _ (branch_gives mode false e typed.0 (first_safe e (exprs_in k.0) w) here off) (λ q h.
      bound (MadeBy StmtForm) (MadeBy StmtForm) ((path k.0).judged s.frame s.head q.1) _ (k.1.whole mode looped first q.1 h.off) (λ r i.
      bound (MadeBy PartForm) (MadeBy StmtForm) (part_judged s.frame s.head (path_if m) (record r.1 { at = q.0.other })) _
      (part_gives m mode looped typed.2 (back ((e ∷ []) ++ exprs_in k.0) (exprs_if m) safe) (back_locals (path k.0).declared (declared_if m) locals) f.1 (record r.1 { at = q.0.other }) i.off) (λ v j.
      made (stated_form at note (Act-F.If q.0.condition r.0 v.0) (act.If q.0.condition r.0 v.0) (act.rolls-If q.0.condition r.0 v.0) (if_form at note q.0.condition r.0 v.0 h.is i.is j.is)) j.off)))

  while_form : (at : Pos) (note : Note) (e : NotedExpr) (q : NotedStmt) → Good e → StmtForm q → ActForm (Act-F.While e q) at note
  while_form at note e q h i k str rest behind =
      let both = two (strings_of_expr e) (strings_of_stmt q) k (literals_of e) (expr_counted e) str in
      (value_formed globals s g knows callees e h k both.0, i _ both.1 End tt, tt, behind)

  while_gives : (e : NotedExpr) (k : KeptStmt) (mode : Mode) → IsCondition globals vs mode e × Fits k.0 mode true → AreSafe ((e ∷ []) ++ exprs_in k.0) → AreLocals (path k.0).declared
      → (callless_expr e && (given_stmt k.0).fine) ≡ true → (at : Pos) (note : Note) (here : Here) → here.counting ≡ false → Gives (MadeBy StmtForm) (while_judged s.frame s.head at note e (path k.0) here)
  while_gives e k mode typed safe locals fine at note here off =
      let body : Before k.0 mode true = record { typed = typed.1; safe = back (e ∷ []) (exprs_in k.0) safe; locals = locals; fine = (and_cases (callless_expr e) (given_stmt k.0).fine fine).1 } in
      let begin = loop_head s.frame (path k.0).assigned here in
      bound (MadeBy BranchGood) (MadeBy StmtForm) (branched s.frame (path k.0).breaks e begin) _ (branch_gives mode (path k.0).breaks e typed.0 (first_safe e (exprs_in k.0) safe) begin off) (λ q h.
      bound (MadeBy StmtForm) (MadeBy StmtForm) ((path k.0).judged s.frame s.head q.1) _ (k.1.whole mode true body q.1 h.off) (λ r i.
      made (stated_form at note (Act-F.While q.0.condition r.0) (act.While q.0.condition r.0) (act.rolls-While q.0.condition r.0) (while_form at note q.0.condition r.0 h.is i.is)) i.off))

  module _ (l : Option KeptStmt) (e : Option NotedExpr) (m : Option KeptStmt) (k : KeptStmt) (mode : Mode) (looped : Bool) where
    abbrev value_exprs : List NotedExpr
    value_exprs = inside_if listed (λ (f : NotedExpr). f ∷ []) e

    abbrev value_declared : List NotedDecl
    value_declared = inside_if listed (λ (f : NotedExpr). []) e

    for_gives : FitsIf l mode looped × IfSome e (IsCondition globals vs mode) × FitsIf m mode looped × Fits k.0 mode true → AreSafe (exprs_if l ++ (value_exprs ++ (exprs_in k.0 ++ exprs_if m)))
        → AreLocals (declared_if l ++ (value_declared ++ ((path k.0).declared ++ declared_if m)))
        → (begins (given_if l) && (callless_value e && (steps (given_if m) && (given_stmt k.0).fine))) ≡ true → (at : Pos) (note : Note) (here : Here) → here.counting ≡ false
        → Gives (MadeBy StmtForm) (for_judged s.frame s.head at note (path_if l) e (path_if m) (path k.0) here)
    for_gives typed safe locals fine at note here off =
        let begun = and_cases (begins (given_if l)) _ fine in
        let going = and_cases (steps (given_if m)) (given_stmt k.0).fine (and_cases (callless_value e) _ begun.1).1 in
        let later = back (exprs_if l) (value_exprs ++ (exprs_in k.0 ++ exprs_if m)) safe in
        let last = back value_exprs (exprs_in k.0 ++ exprs_if m) later in
        let known = back_locals value_declared ((path k.0).declared ++ declared_if m) (back_locals (declared_if l) (value_declared ++ ((path k.0).declared ++ declared_if m)) locals) in
        let body : Before k.0 mode true = record { typed = typed.3; safe = front (exprs_in k.0) (exprs_if m) last; locals = front_locals (path k.0).declared (declared_if m) known; fine = going.1 } in
        bound (MadeBy PartForm) (MadeBy StmtForm) (part_judged s.frame s.head (path_if l) here) _
        (part_gives l mode looped typed.0 (front (exprs_if l) (value_exprs ++ (exprs_in k.0 ++ exprs_if m)) safe) (front_locals (declared_if l) (value_declared ++ ((path k.0).declared ++ declared_if m)) locals) (begins_fine l begun.0) here off) (λ q h.
        bound (MadeBy StartGood) (MadeBy StmtForm) _ _
        (start_gives mode (path k.0).breaks (path k.0).continues e typed.1 (front value_exprs (exprs_in k.0 ++ exprs_if m) later) _ h.off) (λ r i.
        bound (MadeBy StmtForm) (MadeBy StmtForm) ((path k.0).judged s.frame s.head r.1) _ (k.1.whole mode true body r.1 i.off) (λ v j.
        bound (MadeBy PartForm) (MadeBy StmtForm) (part_judged s.frame s.head (path_if m) (to_step r.0.step v.1)) _
        (part_gives m mode looped typed.2 (back (exprs_in k.0) (exprs_if m) last) (back_locals (path k.0).declared (declared_if m) known) (steps_fine m going.0) (to_step r.0.step v.1) (step_off r.0.step v.1 j.off)) (λ w o.
        made (stated_form at note (Act-F.For q.0 r.0.condition w.0 v.0) (act.For q.0 r.0.condition w.0 v.0) (act.rolls-For q.0 r.0.condition w.0 v.0)
        (for_form at note q.0 r.0.condition w.0 v.0 h.is i.is o.is j.is)) o.off))))

  -- ---- what a statement does

  block_form : (at : Pos) (note : Note) (m : Option Mode) (ss : List NotedStmt) → ListForm ss → ActForm (Act-F.Block m ss) at note
  block_form at note m ss h k str rest behind = h k str rest behind

  act_step : (y : Act-F Name Note KeptAct KeptStmt) (mode : Mode) (looped : Bool) → BeforeAct (inner_act y) mode looped → (at : Pos) (note : Note) (here : Here) → here.counting ≡ false
      → Gives (MadeBy StmtForm) ((act_path (act_inside (inner_act y))).judged s.frame s.head at note here)
  act_step (Act-F.Block m ks) mode looped b at note here off =
      bound (MadeBy ListForm) (MadeBy StmtForm) _ _ (all_give ks (unwrap_or m mode) looped (record { typed = b.typed; safe = b.safe; locals = b.locals; fine = b.fine }) here off) (λ q h.
      made (stated_form at note (Act-F.Block m q.0) (act.Block m q.0) (act.rolls-Block m q.0) (block_form at note m q.0 h.is)) h.off)
  act_step Act-F.Empty mode looped b at note here off = made (stated_form at note Act-F.Empty act.Empty act.rolls-Empty (λ k str rest behind. behind)) off
  act_step (Act-F.Local d) mode looped b at note here off = local_gives d mode looped b at note here off
  act_step (Act-F.Assign e f) mode looped b at note here off =
      bound (MadeBy BothGood) (MadeBy StmtForm) _ _ (sides_give e f mode looped b at note here off) (λ q h.
      bound (λ (i : Here). i.counting ≡ false) (MadeBy StmtForm) _ _ (stores_off (q.0 ∷ []) here.next q.1 h.off) (λ i o. made (assign_form q.0 h.is) o))
  act_step (Act-F.Call e) mode looped b at note here off = call_gives e mode looped b at note here off
  act_step (Act-F.If e k None) mode looped b at note here off = if_gives e k None mode looped b.typed b.safe b.locals b.fine at note here off
  act_step (Act-F.If e k (Some j)) mode looped b at note here off = if_gives e k (Some j) mode looped b.typed b.safe b.locals b.fine at note here off
  act_step (Act-F.While e k) mode looped b at note here off = while_gives e k mode b.typed b.safe b.locals b.fine at note here off
  act_step (Act-F.For None e None k) mode looped b at note here off = for_gives None e None k mode looped b.typed b.safe b.locals b.fine at note here off
  act_step (Act-F.For None e (Some j) k) mode looped b at note here off = for_gives None e (Some j) k mode looped b.typed b.safe b.locals b.fine at note here off
  act_step (Act-F.For (Some l) e None k) mode looped b at note here off = for_gives (Some l) e None k mode looped b.typed b.safe b.locals b.fine at note here off
  act_step (Act-F.For (Some l) e (Some j) k) mode looped b at note here off = for_gives (Some l) e (Some j) k mode looped b.typed b.safe b.locals b.fine at note here off
  act_step (Act-F.Return e) mode looped b at note here off = return_gives e mode looped b at note here off
  act_step Act-F.Break mode looped b at note here off = made (stated_form at note Act-F.Break act.Break act.rolls-Break (λ k str rest behind. behind)) off
  act_step Act-F.Continue mode looped b at note here off = made (stated_form at note Act-F.Continue act.Continue act.rolls-Continue (λ k str rest behind. behind)) off
  act_step (Act-F.Check e) mode looped b at note here off = check_gives e mode looped b at note here off
  act_step (Act-F.Bundle ks) mode looped b at note here off = bundle_gives ks mode looped
      (record { typed = b.typed; safe = b.safe; locals = b.locals; fine = fine_parts (map given_stmt (firsts ks)) (and_cases (nat_le 2 (length (map given_stmt (firsts ks)))) _ b.fine).1 }) at note here off

  part_step : (y : Act-F Name Note KeptAct KeptStmt) (mode : Mode) (looped : Bool) → BeforeAct (inner_act y) mode looped → (bundle at : Pos) (note : Note) (here : Here) → here.counting ≡ false
      → Gives (MadeBy AssignForm) ((act_path (act_inside (inner_act y))).part s.frame bundle at note here)
  part_step (Act-F.Assign e f) mode looped b bundle at note here off = as_assigns (sides_judged s.frame at note e f here) (sides_give e f mode looped b at note here off)
    where
      as_assigns : (o : Outcome (NotedStmt × Here)) → Gives (MadeBy BothGood) o → Gives (MadeBy AssignForm) o
      as_assigns (Ok q) h = made (assigns_form q.0 h.is) h.off
      as_assigns (Err r) h = tt
  part_step y mode looped b bundle at note here off = tt

  -- ---- all statements

  act_by : (x : Layer) (y : Act-F Name Note KeptAct KeptStmt) → inner_act y ≡ x → AnyAct (roll-Act Name Note x)
  act_by x y is =
      let e : act_path (act_inside (inner_act y)) ≡ path_of_act (roll-Act Name Note x) = sym (fold-roll-Act Name Note ActPath Path act_path stmt_path x ∙ ap (λ z. act_path (act_inside z)) (sym is)) in
      let holds : ActHolds (act_path (act_inside (inner_act y))) (inner_act y) = record { whole = act_step y; part = part_step y } in
      record { holds = subst (λ z. ActHolds (path_of_act (roll-Act Name Note x)) z) (is ∙ sym (act_out x)) (subst (λ (q : ActPath). ActHolds q (inner_act y)) e holds) }

  opened : (st : NotedStmt) (mode : Mode) (looped : Bool) → Before st mode looped → BeforeAct (out-Act Name Note st.body) mode looped
  opened st mode looped b = record {
    typed = ((stmt_by_parts globals vs s.result st mode looped).0 b.typed).row;
    safe = subst AreSafe (exprs_are st) b.safe;
    locals = subst AreLocals (declared_are st (out-Act Name Note st.body) refl) b.locals;
    fine = sym (ap (λ (g : Given). g.fine) (given_are st)) ∙ b.fine;
  }

  stmt_is : (st : NotedStmt) → AnyAct st.body → StmtHolds st
  stmt_is st a = record {
    whole = λ mode looped b here off.
        subst (λ (q : Path). Gives (MadeBy StmtForm) (q.judged s.frame s.head here)) (path_is st) (a.holds.whole mode looped (opened st mode looped b) st.pos st.note here off);
    part = λ mode looped b bundle here off.
        subst (λ (q : Path). Gives (MadeBy AssignForm) (q.part s.frame bundle here)) (path_is st) (a.holds.part mode looped (opened st mode looped b) bundle st.pos st.note here off);
  }

  stmt_by : (x : Stmt-F Name Note NotedAct NotedStmt) (y : Stmt-F Name Note KeptAct KeptStmt) → inner_stmt y ≡ x → StmtHolds (roll-Stmt Name Note x)
  stmt_by x y is = subst (λ z. StmtHolds (roll-Stmt Name Note z)) is (stmt_is (roll-Stmt Name Note (inner_stmt y)) y.body.1)

  statement_form : (st : NotedStmt) → StmtHolds st
  statement_form = ind-Stmt Name Note AnyAct StmtHolds act_by stmt_by

  -- what a body becomes that has been judged is well formed
  pub judged_form : (st after : NotedStmt) (mode : Mode) → Before st mode false → (here : Here) → here.counting ≡ false
      → bind ((path st).judged s.frame s.head here) (λ (q : NotedStmt × Here). Ok q.0) ≡ Ok after → (k : ℕ) → S k (strings_of_stmt after) → C (alone (stmt_elaborated p vs s.result k after))
  judged_form st after mode b here off is k str =
      let form' = bound (MadeBy StmtForm) StmtForm ((path st).judged s.frame s.head here) (λ (q : NotedStmt × Here). Ok q.0) ((statement_form st).whole mode false b here off) (λ q h. h.is) in
      let form : StmtForm after = subst (Gives StmtForm) is form' in
      form k str End tt
