-- The statement of a step that returns.
use Rattle.std.proofs.Common.{◌≡◌, refl, sym, ap, subst, ◌∙◌, ℕ, ◌+◌, List, [], ◌∷◌, map}
use Rattle.std.specs.Prelude.{Bool, true, false, not, ◌||◌, IfSome, Option, None, Some, Ok}
use Rattle.ckc_base.specs.declared.places.Pos.{Pos}
use Rattle.ckc_base.specs.Outcomes.{Outcome, bind, unless}
use Rattle.ckc_syntax.specs.declared.tree.Name.{Name}
use Rattle.ckc_syntax.specs.declared.tree.Name.TheVariants as name
use Rattle.ckc_syntax.specs.declared.tree.Init.TheVariants as init
use Rattle.ckc_syntax.specs.declared.tree.Node.{Node-F, out-Node}
use Rattle.ckc_syntax.specs.declared.tree.Act.{Act-F, out-Act}
use Rattle.ckc_syntax.specs.declared.tree.Act.TheVariants as act
use Rattle.ckc_typed.specs.declared.environment.Variable.{Variable}
use Rattle.ckc_typed.specs.declared.typed.Note.{Note}
use Rattle.ckc_typed.specs.declared.typed.Typed.{Typed}
use Rattle.ckc_typed.specs.Statements.{is_result}
use Rattle.ckc_typed.specs.Trees.{NotedDecl, NotedExpr, NotedInit, NotedLayer, NotedStmt}
use Rattle.ckc_typed_welltyped.specs.Expressions.{WellTypedExpr}
use Rattle.ckc_typed_welltyped.specs.Statements.{act_rows, WellTypedStmt}
use Rattle.ckc_blame_sound.specs.ckc_bounds_points.specs.Codes.{not_contained, bad_bundle}
use Rattle.ckc_blame_sound.specs.ckc_bounds_stores.specs.Stores as stores
use Rattle.ckc_blame_sound.specs.ckc_bounds_views.specs.Views.{view}
use Rattle.ckc_blame_sound.specs.ckc_bounds_statements.specs.Paths.{Here, path, value_judged, maybe_judged, side_of, is_returned, gone, parts_judged, is_good, bundle_judged, sides_judged, behind_stores, decl_judged, stated, act_judged}
use Rattle.ckc_source.specs.declared.stmt.Spot.{Spot}
use Rattle.ckc_source.specs.Code.{Expr, Code, End, Return}
use Rattle.ckc_source.specs.Code as code
use Rattle.ckc_build_values.specs.Expressions.{expr_elaborated, literals_of}
use Rattle.ckc_build_elaborate.specs.Steps.{Destination, spot, nowhere, destination_of, called, assigned, assigned_form, started, declared, returned}
use Rattle.ckc_build_elaborate.specs.Statements.{all_assigns, act_code, part_of}
use Rattle.ckc_blame_sound.specs.Settings.{Setting}
use Rattle.ckc_blame_sound.specs.Bodies.{globals_of_text}
use Rattle.ckc_blame_sound.specs.Steps.{is_simple, IsStep}
use Rattle.ckc_blame_sound.proofs.Statements.{made_of, pair_same, passes}
use Rattle.ckc_blame_sound.proofs.Stepping.{ActLayer, viewed, judged_is, parted, code_is, out_call, out_return, out_check, out_bundle, first_step}
use Rattle.ckc_blame_control.proofs.Typed.{by_parts}
use Rattle.ckc_blame_steps.specs.Results.{returned_by_act, returned_by}
use Rattle.ckc_blame_steps.proofs.Calls.{value_is_judged}
use Rattle.ckc_blame_steps.proofs.Stepping.{out_assign, out_local, mode_of}

-- ---- no assignment is a return

abbrev is_return : Code → Bool
is_return (Return spot e rest) = true
is_return code = false

module _ (p : Typed) (locals : List Variable) (s : Spot) (to : Destination) (k : ℕ) where
  called_other : (n : Name) (es : List NotedExpr) (at : Pos) → is_return (called p locals s to k n es at End) ≡ false
  called_other (name.Function f) es at = refl
  called_other name.Getchar es at = refl
  called_other name.Putchar es at = refl
  called_other n es at = refl

  form_other : (e : NotedExpr) (node : NotedLayer) → is_return (assigned_form p locals s to k e node End) ≡ false
  form_other e (Node-F.Call n es) = called_other n es e.pos
  form_other e n = refl

  assigned_other : (e : NotedExpr) → is_return (assigned p locals s to k e End) ≡ false
  assigned_other e = form_other e (out-Node Name Note e.node)

  started_other : (i : NotedInit) → is_return (started p locals s to k i End) ≡ false
  started_other init.Nothing = refl
  started_other (init.One e) = assigned_other e
  started_other (init.Many es) = refl

declared_other : (p : Typed) (locals : List Variable) (s : Spot) (k : ℕ) (d : NotedDecl) → is_return (declared p locals s k d End) ≡ false
declared_other p locals s k d = started_other p locals s _ _ d.init

not_refused : {A : Type 0} (b : Bool) (code : ℕ) (at : Pos) (o : Outcome A) (a : A) → unless (not b) code at o ≡ Ok a → b ≡ true
not_refused true code at o a e = refl
not_refused false code at o a e = absurd cc

module _ (s : Setting) (here there : Here) (sp : Spot) (e : Expr) (step : IsStep s here (Return sp e) there) where
  -- A value that is returned is judged, and contained in the bounds of the result.
  abbrev pub JudgedIf : Option NotedExpr → Option NotedExpr → Type 0
  JudgedIf None None = Unit {0}
  JudgedIf (Some x) (Some y) = ((view s.frame x).judged here.next here.at ≡ Ok y) × (stores.returned s.frame s.head y here.next here.at ≡ true)
  JudgedIf _ _ = ⊥

  -- The statement of the step returns a value, or none.
  pub record IsReturnStep : Type 0 where
    pub value : Option NotedExpr
    pub made : Option NotedExpr
    pub typed : IfSome value (WellTypedExpr (globals_of_text s.text) s.variables step.inside.mode)
    pub fits : is_result s.result value ≡ true
    pub before : returned_by step.before ≡ value
    pub after : returned_by step.after ≡ made
    pub judged : JudgedIf value made
    pub becomes : e ≡ returned s.text s.variables s.result step.literals made
    pub mode : sp.mode ≡ step.inside.mode

  judged_as : (d : ActLayer) → out-Act Name Note step.before.body ≡ d → act_judged (viewed d) s.frame s.head step.before.pos step.before.note here ≡ Ok (step.after, step.behind)
  judged_as d is =
      ap (λ (x : ActLayer). act_judged (viewed x) s.frame s.head step.before.pos step.before.note here) (sym is) ∙ sym (judged_is step.before s.frame s.head here) ∙ step.judged

  layer_of : (a : _) (x : ActLayer) → stated step.before.pos step.before.note a ≡ step.after → out-Act Name Note a ≡ x → out-Act Name Note step.after.body ≡ x
  layer_of a x made out = ap (λ (st : NotedStmt). out-Act Name Note st.body) (sym made) ∙ out

  becomes_as : (x : ActLayer) → out-Act Name Note step.after.body ≡ x → (f : Code → Code)
      → act_code (parted x) step.after.pos step.after.note.mode s.text s.variables s.result step.literals ≡ f ∷ [] → f End ≡ Return sp e End
  becomes_as x is f code =
      first_step f (Return sp e)
      (sym code ∙ ap (λ (y : ActLayer). act_code (parted y) step.after.pos step.after.note.mode s.text s.variables s.result step.literals) (sym is) ∙ sym (code_is s step.literals step.after) ∙ step.becomes)

  no_other : (x : ActLayer) → out-Act Name Note step.after.body ≡ x → (f : Code → Code)
      → act_code (parted x) step.after.pos step.after.note.mode s.text s.variables s.result step.literals ≡ f ∷ [] → is_return (f End) ≡ false → IsReturnStep
  no_other x is f code other = absurd (none (sym other ∙ ap is_return (becomes_as x is f code))) where
    none : false ≡ true → ⊥
    none e = cc

  abbrev at : Spot
  at = spot step.after.pos step.after.note.mode

  row_as : (x : Option NotedExpr) → out-Act Name Note step.before.body ≡ Act-F.Return x → IfSome x (WellTypedExpr (globals_of_text s.text) s.variables step.inside.mode) × (is_result s.result x ≡ true)
  row_as x is =
      subst (λ (y : ActLayer). act_rows (globals_of_text s.text) s.variables s.result (WellTypedStmt (globals_of_text s.text) s.variables s.result) y step.inside.mode step.inside.looped) is
      (by_parts s step.before step.inside).row

  same_return : {a b : Spot} {x y : Expr} → Return a x End ≡ Return b y End → (y ≡ x) × (b ≡ a)
  same_return h = (cc, cc)

  judged_if : (x y : Option NotedExpr) (h : Here) → maybe_judged s.frame x here ≡ Ok (y, h) → is_returned s.frame s.head y here.next h ≡ true → JudgedIf x y
  judged_if None y h is ok =
      let p = pair_same {A = Option NotedExpr} None y here h is in
      subst (JudgedIf None) p.0 tt
  judged_if (Some x) y h is ok =
      let m = made_of (value_judged s.frame x here) (λ p. Ok (Some p.0, p.1)) (y, h) is in
      let p = pair_same {A = Option NotedExpr} (Some m.0.0) y m.0.1 h m.2 in
      let v = value_is_judged s.frame x m.0.0 here m.0.1 step.counting m.1 in
      let same : h.counting ≡ false = ap (λ (z : Here). z.counting) (sym p.1 ∙ v.1) ∙ step.counting in
      let at_is : h.at ≡ here.at = ap (λ (z : Here). z.at) (sym p.1 ∙ v.1) in
      let one : (h.counting || stores.returned s.frame s.head m.0.0 here.next h.at) ≡ true = subst (λ z. is_returned s.frame s.head z here.next h ≡ true) (sym p.0) ok in
      let two : (false || stores.returned s.frame s.head m.0.0 here.next h.at) ≡ true = subst (λ b. (b || stores.returned s.frame s.head m.0.0 here.next h.at) ≡ true) same one in
      subst (JudgedIf (Some x)) p.0 (v.0, subst (λ z. stores.returned s.frame s.head m.0.0 here.next z ≡ true) at_is two)

  as_return : (x : Option NotedExpr) → out-Act Name Note step.before.body ≡ Act-F.Return x → IsReturnStep
  as_return x is =
      let m = made_of (maybe_judged s.frame x here) (λ p. unless (not (is_returned s.frame s.head p.0 here.next p.1)) not_contained step.before.pos (Ok (stated step.before.pos step.before.note (act.Return p.0), gone s.frame p.1)))
      (step.after, step.behind) (judged_as (Act-F.Return x) is) in
      let ok = not_refused (is_returned s.frame s.head m.0.0 here.next m.0.1) not_contained step.before.pos (Ok (stated step.before.pos step.before.note (act.Return m.0.0), gone s.frame m.0.1)) (step.after, step.behind) m.2 in
      let q = passes (not (is_returned s.frame s.head m.0.0 here.next m.0.1)) not_contained step.before.pos (Ok (stated step.before.pos step.before.note (act.Return m.0.0), gone s.frame m.0.1)) (step.after, step.behind) m.2 in
      let last = pair_same (stated step.before.pos step.before.note (act.Return m.0.0)) step.after (gone s.frame m.0.1) step.behind q in
      let out = layer_of (act.Return m.0.0) (Act-F.Return m.0.0) last.0 (out_return m.0.0) in
      let code = becomes_as (Act-F.Return m.0.0) out (code.Return at (returned s.text s.variables s.result step.literals m.0.0)) refl in
      let same = same_return code in
      let row = row_as x is in
      record {
        value = x;
        made = m.0.0;
        typed = row.0;
        fits = row.1;
        before = ap returned_by_act is;
        after = ap returned_by_act out;
        judged = judged_if x m.0.0 m.0.1 m.1 ok;
        becomes = same.0;
        mode = ap (λ (z : Spot). z.mode) same.1 ∙ mode_of s step.before step.inside step.after (act.Return m.0.0) (Act-F.Return x) is last.0 refl;
      }

  as_local : (d : NotedDecl) → out-Act Name Note step.before.body ≡ Act-F.Local d → IsReturnStep
  as_local d is =
      let m = made_of (decl_judged s.frame d here) (λ p. Ok (stated step.before.pos step.before.note (act.Local p.0), p.1)) (step.after, step.behind) (judged_as (Act-F.Local d) is) in
      let last = pair_same (stated step.before.pos step.before.note (act.Local m.0.0)) step.after m.0.1 step.behind m.2 in
      no_other (Act-F.Local m.0.0) (layer_of (act.Local m.0.0) (Act-F.Local m.0.0) last.0 (out_local m.0.0)) (declared s.text s.variables at step.literals m.0.0) refl
      (declared_other s.text s.variables at step.literals m.0.0)

  as_assign : (p q : NotedExpr) → out-Act Name Note step.before.body ≡ Act-F.Assign p q → IsReturnStep
  as_assign p q is =
      let m = made_of (sides_judged s.frame step.before.pos step.before.note p q here) (λ p. bind (behind_stores s.frame s.head (p.0 ∷ []) here.next p.1) (λ h. Ok (p.0, h)))
      (step.after, step.behind) (judged_as (Act-F.Assign p q) is) in
      let n = made_of (behind_stores s.frame s.head (m.0.0 ∷ []) here.next m.0.1) (λ h. Ok (m.0.0, h)) (step.after, step.behind) m.2 in
      let last = pair_same m.0.0 step.after n.0 step.behind n.2 in
      let x = made_of (value_judged s.frame p here) (λ a. bind (value_judged s.frame q a.1) (λ b. Ok (stated step.before.pos step.before.note (act.Assign a.0 b.0), b.1))) m.0 m.1 in
      let y = made_of (value_judged s.frame q x.0.1) (λ b. Ok (stated step.before.pos step.before.note (act.Assign x.0.0 b.0), b.1)) m.0 x.2 in
      let both = pair_same (stated step.before.pos step.before.note (act.Assign x.0.0 y.0.0)) m.0.0 y.0.1 m.0.1 y.2 in
      let made : stated step.before.pos step.before.note (act.Assign x.0.0 y.0.0) ≡ step.after = both.0 ∙ last.0 in
      no_other (Act-F.Assign x.0.0 y.0.0) (layer_of (act.Assign x.0.0 y.0.0) (Act-F.Assign x.0.0 y.0.0) made (out_assign x.0.0 y.0.0))
      (assigned s.text s.variables at (destination_of s.text s.variables step.literals x.0.0) (step.literals + literals_of x.0.0) y.0.0) refl
      (assigned_other s.text s.variables at (destination_of s.text s.variables step.literals x.0.0) (step.literals + literals_of x.0.0) y.0.0)

  as_call : (x : NotedExpr) → out-Act Name Note step.before.body ≡ Act-F.Call x → IsReturnStep
  as_call x is =
      let m = made_of (value_judged s.frame x here) (λ p. Ok (stated step.before.pos step.before.note (act.Call p.0), p.1)) (step.after, step.behind) (judged_as (Act-F.Call x) is) in
      let last = pair_same (stated step.before.pos step.before.note (act.Call m.0.0)) step.after m.0.1 step.behind m.2 in
      no_other (Act-F.Call m.0.0) (layer_of (act.Call m.0.0) (Act-F.Call m.0.0) last.0 (out_call m.0.0))
      (assigned s.text s.variables (spot m.0.0.pos step.after.note.mode) nowhere step.literals m.0.0) refl
      (assigned_other s.text s.variables (spot m.0.0.pos step.after.note.mode) nowhere step.literals m.0.0)

  as_check : (x : NotedExpr) → out-Act Name Note step.before.body ≡ Act-F.Check x → IsReturnStep
  as_check x is =
      let m = made_of (value_judged s.frame x here) (λ p. Ok (stated step.before.pos step.before.note (act.Check p.0), record p.1 { at = side_of s.frame true p.0 p.1.at })) (step.after, step.behind)
      (judged_as (Act-F.Check x) is) in
      let last = pair_same (stated step.before.pos step.before.note (act.Check m.0.0)) step.after (record m.0.1 { at = side_of s.frame true m.0.0 m.0.1.at }) step.behind m.2 in
      no_other (Act-F.Check m.0.0) (layer_of (act.Check m.0.0) (Act-F.Check m.0.0) last.0 (out_check m.0.0)) (code.Check at (expr_elaborated s.text s.variables step.literals m.0.0)) refl refl

  as_bundle : (ss : List NotedStmt) → out-Act Name Note step.before.body ≡ Act-F.Bundle ss → IsReturnStep
  unfolding bundle_judged
  as_bundle ss is =
      let paths = map path ss in
      let m = made_of (parts_judged s.frame step.before.pos paths here) (λ p. unless (not (is_good p.1 p.0)) bad_bundle step.before.pos
      (bind (behind_stores s.frame s.head p.0 here.next p.1) (λ h. Ok (stated step.before.pos step.before.note (act.Bundle p.0), h)))) (step.after, step.behind) (judged_as (Act-F.Bundle ss) is) in
      let q = passes (not (is_good m.0.1 m.0.0)) bad_bundle step.before.pos
      (bind (behind_stores s.frame s.head m.0.0 here.next m.0.1) (λ h. Ok (stated step.before.pos step.before.note (act.Bundle m.0.0), h))) (step.after, step.behind) m.2 in
      let n = made_of (behind_stores s.frame s.head m.0.0 here.next m.0.1) (λ h. Ok (stated step.before.pos step.before.note (act.Bundle m.0.0), h)) (step.after, step.behind) q in
      let last = pair_same (stated step.before.pos step.before.note (act.Bundle m.0.0)) step.after n.0 step.behind n.2 in
      no_other (Act-F.Bundle m.0.0) (layer_of (act.Bundle m.0.0) (Act-F.Bundle m.0.0) last.0 (out_bundle m.0.0))
      (code.Bundle at (all_assigns (map part_of m.0.0) s.text s.variables step.literals)) refl refl

  pub return_step : IsReturnStep
  return_step = by (out-Act Name Note step.before.body) refl step.simple
    where
      by : (d : ActLayer) → out-Act Name Note step.before.body ≡ d → is_simple d ≡ true → IsReturnStep
      by (Act-F.Local d) is simple = as_local d is
      by (Act-F.Assign p q) is simple = as_assign p q is
      by (Act-F.Call x) is simple = as_call x is
      by (Act-F.Return x) is simple = as_return x is
      by (Act-F.Check x) is simple = as_check x is
      by (Act-F.Bundle ss) is simple = as_bundle ss is
      by d is simple = absurd cc
