-- The judgement of a function, by its head and then its body.
use Rattle.std.proofs.Common.{◌≡◌, ◌∙◌, sym, ap}
use Rattle.std.specs.Prelude.{Ok, Err}
use Rattle.ckc_base.specs.declared.places.Refusal.{Refusal}
use Rattle.ckc_base.specs.Outcomes.{Outcome, bind}
use Rattle.ckc_syntax.specs.declared.tree.Item.TheVariants as item
use Rattle.ckc_typed.specs.Trees.{NotedHead, NotedItem, NotedStmt}
use Rattle.ckc_bounds_points.specs.declared.frame.Frame.{Frame}
use Rattle.ckc_bounds.specs.Texts.{body_judged, head_kept, function_judged}

module _ (text frame : Frame) (h g : NotedHead) (body : NotedStmt) (kept : frame ≡ text) (made : head_kept text h ≡ Ok g) where
  abbrev with_body : NotedHead → NotedStmt → Outcome NotedItem
  with_body k s = Ok (item.Function k s)

  whole : function_judged text h body ≡ bind (body_judged frame h body) (with_body g)
  whole =
      ap (λ (o : Outcome NotedHead). bind o (λ k. bind (body_judged text h body) (with_body k))) made
      ∙ ap (λ (f : Frame). bind (body_judged f h body) (with_body g)) (sym kept)

  pub function_fault : (r : Refusal) → body_judged frame h body ≡ Err r → function_judged text h body ≡ Err r
  function_fault r q = whole ∙ ap (λ (o : Outcome NotedStmt). bind o (with_body g)) q

  pub function_done : (s t : NotedStmt) → body_judged frame h body ≡ Ok s → t ≡ s → function_judged text h body ≡ Ok (item.Function g t)
  function_done s t q e = whole ∙ ap (λ (o : Outcome NotedStmt). bind o (with_body g)) q ∙ ap (λ (u : NotedStmt). Ok (item.Function g u)) (sym e)
