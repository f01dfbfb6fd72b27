-- Judging keeps the note of a statement, and with it its mode.
use Rattle.std.proofs.Common.{◌≡◌, refl, sym, subst, ℕ, Bool, true, false, [], ◌∷◌, ◌++◌}
use Rattle.std.specs.Prelude.{not, Ok}
use Rattle.ckc_base.specs.declared.places.Pos.{Pos}
use Rattle.ckc_base.specs.Outcomes.{Outcome, bind, unless}
use Rattle.ckc_base.proofs.Gives.{Gives, given_from, bound}
use Rattle.ckc_syntax.specs.Inside.{listed, inside_if}
use Rattle.ckc_syntax.specs.declared.tree.Name.{Name}
use Rattle.ckc_syntax.specs.declared.tree.Act.{Act-F, out-Act}
use Rattle.ckc_syntax.specs.declared.tree.Act.TheVariants as act
use Rattle.ckc_typed.specs.declared.typed.Note.{Note}
use Rattle.ckc_typed.specs.Trees.{NotedExpr, NotedHead, NotedStmt}
use Rattle.ckc_bounds.specs.ckc_bounds_points.specs.declared.frame.HeadBounds.{HeadBounds}
use Rattle.ckc_bounds.specs.ckc_bounds_points.specs.declared.frame.Frame.{Frame}
use Rattle.ckc_bounds.specs.ckc_bounds_points.specs.Codes.{not_contained, bad_bundle}
use Rattle.ckc_bounds.specs.ckc_bounds_statements.specs.Paths.{Here, Path, ActOfPaths, stated, value_judged, maybe_judged, decl_judged, sides_judged, behind_stores, all_judged, part_judged, parts_judged, is_good, bundle_judged, branched, loop_head, for_started, to_step, is_returned, gone, act_judged, path}
use Rattle.ckc_bounds.specs.Declarations.{head_bounds}
use Rattle.ckc_bounds.specs.Frames.{begin_of, function_frame}
use Rattle.ckc_bounds.specs.Texts.{body_judged}
use Rattle.ckc_blame_sound.proofs.Bounded.{anything}
use Rattle.ckc_blame_sound.proofs.Stepping.{viewed, judged_is}

-- whatever the first gives
past : {A B : Type 0} (P : B → Type 0) (o : Outcome A) (f : A → Outcome B) → ((a : A) → Gives P (f a)) → Gives P (bind o f)
past P o f h = bound (λ a. Unit {0}) P o f (anything o) (λ a u. h a)

unless_gives : {A : Type 0} (P : A → Type 0) (b : Bool) (code : ℕ) (at : Pos) (o : Outcome A) → Gives P o → Gives P (unless b code at o)
unless_gives P true code at o h = tt
unless_gives P false code at o h = h

module _ (frame : Frame) (head : HeadBounds) (at : Pos) (note : Note) where
  abbrev Kept : NotedStmt × Here → Type 0
  Kept p = p.0.note ≡ note

  sides_kept : (e f : NotedExpr) (here : Here) → Gives Kept (sides_judged frame at note e f here)
  sides_kept e f here = past Kept (value_judged frame e here) _ (λ p. past Kept (value_judged frame f p.1) _ (λ q. refl))

  act_kept : (x : ActOfPaths) (here : Here) → Gives Kept (act_judged x frame head at note here)
  unfolding bundle_judged
  act_kept (Act-F.Block m ss) here = past Kept (all_judged frame head ss here) _ (λ p. refl)
  act_kept Act-F.Empty here = refl
  act_kept (Act-F.Local d) here = past Kept (decl_judged frame d here) _ (λ p. refl)
  act_kept (Act-F.Assign e f) here =
      bound Kept Kept (sides_judged frame at note e f here) _ (sides_kept e f here) (λ p is. past Kept (behind_stores frame head (p.0 ∷ []) here.next p.1) _ (λ h. is))
  act_kept (Act-F.Call e) here = past Kept (value_judged frame e here) _ (λ p. refl)
  act_kept (Act-F.If e s t) here =
      past Kept (branched frame false e here) _ (λ p. past Kept (s.judged frame head p.1) _ (λ q.
      past Kept (part_judged frame head t (record q.1 { at = p.0.other })) _ (λ r. refl)))
  act_kept (Act-F.While e s) here =
      past Kept (branched frame s.breaks e (loop_head frame s.assigned here)) _ (λ p. past Kept (s.judged frame head p.1) _ (λ q. refl))
  act_kept (Act-F.For s e t u) here =
      past Kept (part_judged frame head s here) _ (λ p.
      past Kept (for_started frame u.breaks u.continues e (loop_head frame (u.assigned ++ inside_if listed (λ (v : Path). v.assigned) t) p.1)) _ (λ q.
      past Kept (u.judged frame head q.1) _ (λ r. past Kept (part_judged frame head t (to_step q.0.step r.1)) _ (λ v. refl))))
  act_kept (Act-F.Return e) here =
      past Kept (maybe_judged frame e here) _ (λ p.
      unless_gives Kept (not (is_returned frame head p.0 here.next p.1)) not_contained at (Ok (stated at note (act.Return p.0), gone frame p.1)) refl)
  act_kept Act-F.Break here = refl
  act_kept Act-F.Continue here = refl
  act_kept (Act-F.Check e) here = past Kept (value_judged frame e here) _ (λ p. refl)
  act_kept (Act-F.Bundle ss) here =
      past Kept (parts_judged frame at ss here) _ (λ p.
      unless_gives Kept (not (is_good p.1 p.0)) bad_bundle at (bind (behind_stores frame head p.0 here.next p.1) (λ h. Ok (stated at note (act.Bundle p.0), h)))
      (past Kept (behind_stores frame head p.0 here.next p.1) _ (λ h. refl)))

stmt_noted : (frame : Frame) (head : HeadBounds) (st : NotedStmt) (here : Here) → Gives (λ (p : NotedStmt × Here). p.0.note ≡ st.note) ((path st).judged frame head here)
stmt_noted frame head st here =
    let P : Outcome (NotedStmt × Here) → Type 0 = λ o. Gives (λ (p : NotedStmt × Here). p.0.note ≡ st.note) o in
    subst P (sym (judged_is st frame head here)) (act_kept frame head st.pos st.note (viewed (out-Act Name Note st.body)) here)

pub body_noted : (frame : Frame) (h : NotedHead) (before after : NotedStmt) → body_judged frame h before ≡ Ok after → after.note ≡ before.note
body_noted frame h before after judged =
    given_from (λ (s : NotedStmt). s.note ≡ before.note) (body_judged frame h before) after
    (bound (λ (p : NotedStmt × Here). p.0.note ≡ before.note) (λ (s : NotedStmt). s.note ≡ before.note) ((path before).judged (function_frame frame h before) (head_bounds frame h) (begin_of frame h before))
    (λ p. Ok p.0) (stmt_noted (function_frame frame h before) (head_bounds frame h) before (begin_of frame h before)) (λ p is. is)) judged
