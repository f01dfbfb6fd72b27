-- The code of a step stands in the mode that its statement notes.
use Rattle.std.proofs.Common.{◌≡◌, ◌∙◌, sym, ap, refl, ℕ, ◌+◌, List, [], ◌∷◌, map, rules}
use Rattle.std.specs.Prelude.{true, not, Ok}
use Rattle.ckc_base.specs.declared.places.Pos.{Pos}
use Rattle.ckc_base.specs.declared.arithmetic.Mode.{Mode}
use Rattle.ckc_base.specs.declared.arithmetic.Mode.TheVariants.{Unchecked}
use Rattle.ckc_base.specs.Outcomes.{bind}
use Rattle.ckc_syntax.specs.declared.tree.Name.{Name}
use Rattle.ckc_syntax.specs.declared.tree.Name.TheVariants as name
use Rattle.ckc_syntax.specs.declared.tree.Init.TheVariants as init
use Rattle.ckc_syntax.specs.declared.tree.Node.{Node-F, out-Node}
use Rattle.ckc_syntax.specs.declared.tree.Act.{Act-F, out-Act, the_lemmas}
use Rattle.ckc_syntax.specs.declared.tree.Act.TheVariants as act
use Rattle.ckc_typed.specs.declared.environment.Variable.{Variable}
use Rattle.ckc_typed.specs.declared.typed.Note.{Note}
use Rattle.ckc_typed.specs.declared.typed.Typed.{Typed}
use Rattle.ckc_typed.specs.Trees.{NotedAct, NotedDecl, NotedExpr, NotedInit, NotedLayer, NotedStmt}
use Rattle.ckc_typed_welltyped.specs.Statements.{mode_in_form}
use Rattle.ckc_blame_sound.specs.ckc_bounds_points.specs.declared.frame.HeadBounds.{HeadBounds}
use Rattle.ckc_blame_sound.specs.ckc_bounds_points.specs.declared.frame.Frame.{Frame}
use Rattle.ckc_blame_sound.specs.ckc_bounds_points.specs.Codes.{bad_bundle, not_contained}
use Rattle.ckc_blame_sound.specs.ckc_bounds_statements.specs.Paths.{Here, path, value_judged, maybe_judged, side_of, is_returned, gone, parts_judged, is_good, bundle_judged, sides_judged, behind_stores, decl_judged, stated, act_judged}
use Rattle.ckc_source.specs.declared.stmt.Spot.{Spot}
use Rattle.ckc_source.specs.Code.{Code, End, Assign, Bundle, Get, Put, Call, If, Loop, Return, Check}
use Rattle.ckc_source.specs.Steps.{spot_in}
use Rattle.ckc_build_values.specs.Expressions.{literals_of}
use Rattle.ckc_build_elaborate.specs.Steps.{Destination, spot, nowhere, destination_of, called, assigned, assigned_form, started, declared}
use Rattle.ckc_build_elaborate.specs.Statements.{act_code}
use Rattle.ckc_blame_sound.specs.Settings.{Setting}
use Rattle.ckc_blame_sound.specs.Steps.{is_simple, IsStep}
use Rattle.ckc_blame_sound.proofs.Stepping.{ActLayer, viewed, judged_is, parted, code_is, out_call, out_return, out_check, out_bundle, first_step}
use Rattle.ckc_blame_control.proofs.Typed.{by_parts}
use Rattle.ckc_blame_walk.proofs.Pieces.{Gives, through, given, unless_gives}
use Rattle.ckc_blame_steps.specs.Checked.{mode_of}

-- ---- judging keeps the note and the kind of a simple statement

-- a simple statement with a place and a note
record IsStated (at : Pos) (note : Note) (st : NotedStmt) : Type 0 where
  pub act : NotedAct
  pub made : stated at note act ≡ st
  pub simple : is_simple (out-Act Name Note act) ≡ true

abbrev IsStatedFirst : Pos → Note → NotedStmt × Here → Type 0
IsStatedFirst at note p = IsStated at note p.0

out_assign : (e f : NotedExpr) → out-Act Name Note (act.Assign e f) ≡ Act-F.Assign e f
out_assign e f = search (rules, the_lemmas)

out_local : (d : NotedDecl) → out-Act Name Note (act.Local d) ≡ Act-F.Local d
out_local d = search (rules, the_lemmas)

module _ (frame : Frame) (head : HeadBounds) (at : Pos) (note : Note) where
  so : (a : NotedAct) (x : ActLayer) → out-Act Name Note a ≡ x → is_simple x ≡ true → (h : Here) → Gives (IsStatedFirst at note) (Ok (stated at note a, h))
  so a x out simple h = given (IsStatedFirst at note) (stated at note a, h) (record { act = a; made = refl; simple = ap is_simple out ∙ simple })

  sides_stated : (e f : NotedExpr) (here : Here) → Gives (IsStatedFirst at note) (sides_judged frame at note e f here)
  sides_stated e f here =
      through (IsStatedFirst at note) (value_judged frame e here) _ (λ p is.
      through (IsStatedFirst at note) (value_judged frame f p.1) _ (λ q is_q. so (act.Assign p.0 q.0) (Act-F.Assign p.0 q.0) (out_assign p.0 q.0) refl q.1))

  simple_stated : (d : ActLayer) (here : Here) → is_simple d ≡ true → Gives (IsStatedFirst at note) (act_judged (viewed d) frame head at note here)
  unfolding bundle_judged
  simple_stated (Act-F.Local d) here simple =
      through (IsStatedFirst at note) (decl_judged frame d here) _ (λ p is. so (act.Local p.0) (Act-F.Local p.0) (out_local p.0) refl p.1)
  simple_stated (Act-F.Assign e f) here simple =
      through (IsStatedFirst at note) (sides_judged frame at note e f here) _ (λ p is.
      through (IsStatedFirst at note) (behind_stores frame head (p.0 ∷ []) here.next p.1) _ (λ h h_is.
      given (IsStatedFirst at note) (p.0, h) ((sides_stated e f here).made p is)))
  simple_stated (Act-F.Call e) here simple =
      through (IsStatedFirst at note) (value_judged frame e here) _ (λ p is. so (act.Call p.0) (Act-F.Call p.0) (out_call p.0) refl p.1)
  simple_stated (Act-F.Return e) here simple =
      through (IsStatedFirst at note) (maybe_judged frame e here) _ (λ p is.
      unless_gives (IsStatedFirst at note) (not (is_returned frame head p.0 here.next p.1)) not_contained at (Ok (stated at note (act.Return p.0), gone frame p.1))
      (so (act.Return p.0) (Act-F.Return p.0) (out_return p.0) refl (gone frame p.1)))
  simple_stated (Act-F.Check e) here simple =
      through (IsStatedFirst at note) (value_judged frame e here) _ (λ p is.
      so (act.Check p.0) (Act-F.Check p.0) (out_check p.0) refl (record p.1 { at = side_of frame true p.0 p.1.at }))
  simple_stated (Act-F.Bundle ss) here simple =
      through (IsStatedFirst at note) (parts_judged frame at (map path ss) here) _ (λ p is.
      unless_gives (IsStatedFirst at note) (not (is_good p.1 p.0)) bad_bundle at (bind (behind_stores frame head p.0 here.next p.1) (λ h. Ok (stated at note (act.Bundle p.0), h)))
      (through (IsStatedFirst at note) (behind_stores frame head p.0 here.next p.1) _ (λ h h_is. so (act.Bundle p.0) (Act-F.Bundle p.0) (out_bundle p.0) refl h)))
  simple_stated d here simple = absurd (cc)

-- ---- the code of a simple statement

module _ (end : Spot) (p : Typed) (locals : List Variable) (s : Spot) (to : Destination) (k : ℕ) where
  called_mode : (n : Name) (es : List NotedExpr) (at : Pos) → (spot_in end (called p locals s to k n es at End)).mode ≡ s.mode
  called_mode (name.Function f) es at = refl
  called_mode name.Getchar es at = refl
  called_mode name.Putchar es at = refl
  called_mode (name.Local x) es at = refl
  called_mode (name.Static x) es at = refl
  called_mode (name.Tag x) es at = refl
  called_mode (name.Member x) es at = refl

  form_mode : (e : NotedExpr) (node : NotedLayer) → (spot_in end (assigned_form p locals s to k e node End)).mode ≡ s.mode
  form_mode e (Node-F.Call n es) = called_mode n es e.pos
  form_mode e (Node-F.Number n u) = refl
  form_mode e (Node-F.Text bytes) = refl
  form_mode e Node-F.Null = refl
  form_mode e (Node-F.Name n) = refl
  form_mode e (Node-F.Un o a) = refl
  form_mode e (Node-F.Bin o a b) = refl
  form_mode e (Node-F.Pick a b d) = refl
  form_mode e (Node-F.Index a b) = refl
  form_mode e (Node-F.Dot a m at) = refl
  form_mode e (Node-F.Arrow a m at) = refl
  form_mode e (Node-F.Cast t a) = refl
  form_mode e (Node-F.Size t) = refl
  form_mode e (Node-F.Trusted t a l) = refl
  form_mode e (Node-F.Tested t a l) = refl
  form_mode e (Node-F.Calloc t n u) = refl

  assigned_mode : (e : NotedExpr) → (spot_in end (assigned p locals s to k e End)).mode ≡ s.mode
  assigned_mode e = form_mode e (out-Node Name Note e.node)

  started_mode : (i : NotedInit) → (spot_in end (started p locals s to k i End)).mode ≡ s.mode
  started_mode init.Nothing = refl
  started_mode (init.One e) = assigned_mode e
  started_mode (init.Many es) = refl

declared_mode : (end : Spot) (p : Typed) (locals : List Variable) (s : Spot) (k : ℕ) (d : NotedDecl) → (spot_in end (declared p locals s k d End)).mode ≡ s.mode
declared_mode end p locals s k d = started_mode end p locals s _ _ d.init

code_mode : (end : Spot) (s : Setting) (y : ActLayer) (at : Pos) (mode : Mode) (k : ℕ) (f : Code → Code) → is_simple y ≡ true
    → act_code (parted y) at mode s.text s.variables s.result k ≡ f ∷ [] → (spot_in end (f End)).mode ≡ mode
code_mode end s (Act-F.Local d) at mode k f simple code =
    sym (ap (λ (c : Code). (spot_in end c).mode) (first_step (declared s.text s.variables (spot at mode) k d) f code)) ∙ declared_mode end s.text s.variables (spot at mode) k d
code_mode end s (Act-F.Assign a b) at mode k f simple code =
    sym (ap (λ (c : Code). (spot_in end c).mode) (first_step (assigned s.text s.variables (spot at mode) (destination_of s.text s.variables k a) (k + literals_of a) b) f code))
    ∙ assigned_mode end s.text s.variables (spot at mode) (destination_of s.text s.variables k a) (k + literals_of a) b
code_mode end s (Act-F.Call e) at mode k f simple code =
    sym (ap (λ (c : Code). (spot_in end c).mode) (first_step (assigned s.text s.variables (spot e.pos mode) nowhere k e) f code)) ∙ assigned_mode end s.text s.variables (spot e.pos mode) nowhere k e
code_mode end s (Act-F.Return e) at mode k f simple code = sym (ap (λ (c : Code). (spot_in end c).mode) (first_step _ f code))
code_mode end s (Act-F.Check e) at mode k f simple code = sym (ap (λ (c : Code). (spot_in end c).mode) (first_step _ f code))
code_mode end s (Act-F.Bundle ss) at mode k f simple code = sym (ap (λ (c : Code). (spot_in end c).mode) (first_step _ f code))
code_mode end s d at mode k f simple code = absurd (cc)

-- ---- together

mode_is : (at : Pos) (code : Code) → mode_of code ≡ (spot_in (record { at = at; mode = Unchecked }) code).mode
mode_is at (Assign spot target right rest) = refl
mode_is at (Bundle spot assigns rest) = refl
mode_is at (Get spot target rest) = refl
mode_is at (Put spot target e rest) = refl
mode_is at (Call spot target callee es rest) = refl
mode_is at (If spot e one two rest) = refl
mode_is at (Loop spot e body step rest) = refl
mode_is at (Return spot e rest) = refl
mode_is at (Check spot e rest) = refl
mode_is at code = refl

module _ (s : Setting) (here there : Here) (step : Code → Code) (is : IsStep s here step there) where
  after_stated : IsStated is.before.pos is.before.note is.after
  after_stated =
      (simple_stated s.frame s.head is.before.pos is.before.note (out-Act Name Note is.before.body) here is.simple).made (is.after, is.behind)
      (sym (judged_is is.before s.frame s.head here) ∙ is.judged)

  -- the spot of the step, whatever the end of the function is
  pub step_spot : (end : Spot) → (spot_in end (step End)).mode ≡ is.before.note.mode
  step_spot end =
      let a = after_stated in
      code_mode end s (out-Act Name Note is.after.body) is.after.pos is.after.note.mode is.literals step
      (ap (λ (st : NotedStmt). is_simple (out-Act Name Note st.body)) (sym a.made) ∙ a.simple) (sym (code_is s is.literals is.after) ∙ is.becomes)
      ∙ sym (ap (λ (st : NotedStmt). st.note.mode) a.made)

  pub step_mode : mode_of (step End) ≡ is.before.note.mode
  step_mode = mode_is is.before.pos (step End) ∙ step_spot (record { at = is.before.pos; mode = Unchecked })

  -- and that is the mode in which the statement is typed
  pub inside_mode : is.inside.mode ≡ is.before.note.mode
  inside_mode = same (out-Act Name Note is.before.body) is.simple ∙ sym (ap (λ (n : Note). n.mode) (by_parts s is.before is.inside).noted)
    where
      same : (x : ActLayer) → is_simple x ≡ true → is.inside.mode ≡ mode_in_form is.inside.mode x
      same (Act-F.Block m ss) simple = absurd (cc)
      same x simple = refl
