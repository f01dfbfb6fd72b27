-- Which statement a step comes from.
use Rattle.std.proofs.Common.{◌≡◌, refl, sym, ap, ◌∙◌, Bool, true, false, List, [], ◌∷◌, map}
use Rattle.std.specs.Prelude.{not, Option, Ok}
use Rattle.ckc_base.specs.Outcomes.{bind, unless}
use Rattle.ckc_syntax.specs.declared.tree.Name.{Name}
use Rattle.ckc_syntax.specs.declared.tree.Act.{Act-F, out-Act}
use Rattle.ckc_syntax.specs.declared.tree.Act.TheVariants as act
use Rattle.ckc_typed.specs.declared.typed.Note.{Note}
use Rattle.ckc_typed.specs.Trees.{NotedAct, NotedDecl, NotedExpr, NotedStmt}
use Rattle.ckc_blame_sound.specs.ckc_bounds_points.specs.Codes.{not_contained, bad_bundle}
use Rattle.ckc_blame_sound.specs.ckc_bounds_statements.specs.Paths.{Here, value_judged, maybe_judged, side_of, is_returned, gone, act_judged, parts_judged, is_good, bundle_judged, behind_stores, path, stated}
use Rattle.ckc_source.specs.Code as code
use Rattle.ckc_source.specs.Code.{Code, End, Bundle, Return, Check}
use Rattle.ckc_build_values.specs.Expressions.{expr_elaborated}
use Rattle.ckc_build_elaborate.specs.Steps.{spot, nowhere, assigned, returned}
use Rattle.ckc_build_elaborate.specs.Statements.{all_assigns, part_of, act_code}
use Rattle.ckc_blame_sound.specs.Settings.{Setting}
use Rattle.ckc_blame_sound.specs.Steps.{is_simple, IsStep}
use Rattle.ckc_blame_sound.proofs.Statements.{made_of, pair_same, passes}
use Rattle.ckc_blame_sound.proofs.Stepping.{ActLayer, viewed, judged_is, parted, code_is, first_step, out_call, out_return, out_check, out_bundle}

-- whether some code begins with a bundle
abbrev pub is_bundled : Code → Bool
is_bundled (Bundle spot assigns rest) = true
is_bundled c = false

-- whether some code begins with a return or a dynamic check
abbrev pub is_ending : Code → Bool
is_ending (Return spot e rest) = true
is_ending (Check spot e rest) = true
is_ending c = false

module _ (s : Setting) (here there : Here) (step : Code → Code) (i : IsStep s here step there) where
  judged_as : (x : ActLayer) → out-Act Name Note i.before.body ≡ x → act_judged (viewed x) s.frame s.head i.before.pos i.before.note here ≡ Ok (i.after, i.behind)
  judged_as x is = ap (λ (y : ActLayer). act_judged (viewed y) s.frame s.head i.before.pos i.before.note here) (sym is) ∙ sym (judged_is i.before s.frame s.head here) ∙ i.judged

  -- what the statement becomes, by its layer
  pub becomes_as : (a : NotedAct) (x : ActLayer) → stated i.before.pos i.before.note a ≡ i.after → out-Act Name Note a ≡ x
      → (out-Act Name Note i.after.body ≡ x) × (act_code (parted x) i.after.pos i.after.note.mode s.text s.variables s.result i.literals ≡ step ∷ [])
  becomes_as a x last out =
      let is : out-Act Name Note i.after.body ≡ x = ap (λ (y : NotedStmt). out-Act Name Note y.body) (sym last) ∙ out in
      (is, ap (λ (y : ActLayer). act_code (parted y) i.after.pos i.after.note.mode s.text s.variables s.result i.literals) (sym is) ∙ sym (code_is s i.literals i.after) ∙ i.becomes)

  -- a call that is a statement
  pub record IsCallAlone : Type 0 where
    pub call : NotedExpr
    pub made : NotedExpr
    pub is : out-Act Name Note i.before.body ≡ Act-F.Call call
    pub becomes : out-Act Name Note i.after.body ≡ Act-F.Call made
    pub judged : value_judged s.frame call here ≡ Ok (made, i.behind)
    pub goes : assigned s.text s.variables (spot made.pos i.after.note.mode) nowhere i.literals made End ≡ step End

  pub data Kind : Type 0 where
    Assigns : (e f : NotedExpr) → out-Act Name Note i.before.body ≡ Act-F.Assign e f → Kind
    Declares : (d : NotedDecl) → out-Act Name Note i.before.body ≡ Act-F.Local d → Kind
    Calls : IsCallAlone → Kind
    Bundles : (ss : List NotedStmt) → out-Act Name Note i.before.body ≡ Act-F.Bundle ss → is_bundled (step End) ≡ true → Kind
    Others : is_ending (step End) ≡ true → Kind

  pub as_call : (x : NotedExpr) → out-Act Name Note i.before.body ≡ Act-F.Call x → IsCallAlone
  as_call x is =
      let m = made_of (value_judged s.frame x here) (λ p. Ok (stated i.before.pos i.before.note (act.Call p.0), p.1)) (i.after, i.behind) (judged_as (Act-F.Call x) is) in
      let last = pair_same (stated i.before.pos i.before.note (act.Call m.0.0)) i.after m.0.1 i.behind m.2 in
      let b = becomes_as (act.Call m.0.0) (Act-F.Call m.0.0) last.0 (out_call m.0.0) in
      record {
        call = x;
        made = m.0.0;
        is = is;
        becomes = b.0;
        judged = m.1 ∙ ap (λ (y : Here). Ok (m.0.0, y)) last.1;
        goes = first_step (assigned s.text s.variables (spot m.0.0.pos i.after.note.mode) nowhere i.literals m.0.0) step b.1;
      }

  as_return : (x : Option NotedExpr) → out-Act Name Note i.before.body ≡ Act-F.Return x → is_ending (step End) ≡ true
  as_return x is =
      let m = made_of (maybe_judged s.frame x here) (λ p. unless (not (is_returned s.frame s.head p.0 here.next p.1)) not_contained i.before.pos (Ok (stated i.before.pos i.before.note (act.Return p.0), gone s.frame p.1)))
      (i.after, i.behind) (judged_as (Act-F.Return x) is) in
      let q = passes (not (is_returned s.frame s.head m.0.0 here.next m.0.1)) not_contained i.before.pos (Ok (stated i.before.pos i.before.note (act.Return m.0.0), gone s.frame m.0.1)) (i.after, i.behind) m.2 in
      let last = pair_same (stated i.before.pos i.before.note (act.Return m.0.0)) i.after (gone s.frame m.0.1) i.behind q in
      let b = becomes_as (act.Return m.0.0) (Act-F.Return m.0.0) last.0 (out_return m.0.0) in
      ap is_ending (sym (first_step (code.Return (spot i.after.pos i.after.note.mode) (returned s.text s.variables s.result i.literals m.0.0)) step b.1))

  as_check : (x : NotedExpr) → out-Act Name Note i.before.body ≡ Act-F.Check x → is_ending (step End) ≡ true
  as_check x is =
      let m = made_of (value_judged s.frame x here) (λ p. Ok (stated i.before.pos i.before.note (act.Check p.0), record p.1 { at = side_of s.frame true p.0 p.1.at })) (i.after, i.behind)
      (judged_as (Act-F.Check x) is) in
      let last = pair_same (stated i.before.pos i.before.note (act.Check m.0.0)) i.after (record m.0.1 { at = side_of s.frame true m.0.0 m.0.1.at }) i.behind m.2 in
      let b = becomes_as (act.Check m.0.0) (Act-F.Check m.0.0) last.0 (out_check m.0.0) in
      ap is_ending (sym (first_step (code.Check (spot i.after.pos i.after.note.mode) (expr_elaborated s.text s.variables i.literals m.0.0)) step b.1))

  as_bundle : (ss : List NotedStmt) → out-Act Name Note i.before.body ≡ Act-F.Bundle ss → is_bundled (step End) ≡ true
  unfolding bundle_judged
  as_bundle ss is =
      let m = made_of (parts_judged s.frame i.before.pos (map path ss) here) (λ p. unless (not (is_good p.1 p.0)) bad_bundle i.before.pos
      (bind (behind_stores s.frame s.head p.0 here.next p.1) (λ h. Ok (stated i.before.pos i.before.note (act.Bundle p.0), h)))) (i.after, i.behind) (judged_as (Act-F.Bundle ss) is) in
      let q = passes (not (is_good m.0.1 m.0.0)) bad_bundle i.before.pos
      (bind (behind_stores s.frame s.head m.0.0 here.next m.0.1) (λ h. Ok (stated i.before.pos i.before.note (act.Bundle m.0.0), h))) (i.after, i.behind) m.2 in
      let n = made_of (behind_stores s.frame s.head m.0.0 here.next m.0.1) (λ h. Ok (stated i.before.pos i.before.note (act.Bundle m.0.0), h)) (i.after, i.behind) q in
      let last = pair_same (stated i.before.pos i.before.note (act.Bundle m.0.0)) i.after n.0 i.behind n.2 in
      let b = becomes_as (act.Bundle m.0.0) (Act-F.Bundle m.0.0) last.0 (out_bundle m.0.0) in
      ap is_bundled (sym (first_step (code.Bundle (spot i.after.pos i.after.note.mode) (all_assigns (map part_of m.0.0) s.text s.variables i.literals)) step b.1))

  pub kind : Kind
  kind = by (out-Act Name Note i.before.body) refl i.simple
    where
      by : (x : ActLayer) → out-Act Name Note i.before.body ≡ x → is_simple x ≡ true → Kind
      by (Act-F.Local d) is simple = Declares d is
      by (Act-F.Assign e f) is simple = Assigns e f is
      by (Act-F.Call x) is simple = Calls (as_call x is)
      by (Act-F.Return x) is simple = Others (as_return x is)
      by (Act-F.Check x) is simple = Others (as_check x is)
      by (Act-F.Bundle ss) is simple = Bundles ss is (as_bundle ss is)
      by x is simple = absurd (cc)
