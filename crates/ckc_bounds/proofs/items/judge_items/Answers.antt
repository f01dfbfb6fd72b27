use Rattle.std.proofs.Common.{◌∙◌, refl, sym, ap, subst, Err}
use Rattle.std.proofs.lemmas.Result.{err_from_is_err_and}
use Rattle.ckc_base.specs.Outcomes.{AnswersOutcome}
use Rattle.ckc_typed.specs.Trees.{NotedItem}
use Rattle.ckc_bounds_points.specs.declared.frame.Frame.{Frame}
use Rattle.ckc_bounds.specs.code.Declarations.{text_of}
use Rattle.ckc_bounds.specs.Texts.{item_judged, items_judged}
use Rattle.ckc_base.proofs.Ends.{stops}
use Rattle.ckc_base.proofs.Turns.{begin, turn_fault, turn_done, turn_end}
use Rattle.ckc_bounds.proofs.items.judge_items.Goals as goal

pub loop-item-init : goal.loop-item-init
loop-item-init c = record {
  judged = begin (items_judged (text_of c.args.frame.now) c.args.items.now) _ c.new-all.ensures;
  kept = refl;
}

pub returns-in_err-judged-clause-judged : goal.returns-in_err-judged-clause-judged
returns-in_err-judged-clause-judged c =
    let f = item_judged (text_of c.args.frame.now) in
    let p = err_from_is_err_and c.from_residual.result c.from_residual.ensures.1 in
    stops (f c.item-item.result) (items_judged (text_of c.args.frame.now) c.args.items.now) c.from_residual.result p.0 c.in_err-judged.field-0.0 p.1 p.2
    (subst (λ (t : Frame). AnswersOutcome {A = NotedItem} (Err c.in_err-judged.field-0.0) (item_judged t c.item-item.result)) c.loop-item.invariant.kept c.in_err-judged.ensures.judged)
    (turn_fault f c.args.items.now c.loop-item.item-index _ _ c.loop-item.invariant.judged c.item-item.result c.loop-item-test.true c.item-item.is)

pub loop-item-preserved : goal.loop-item-preserved
loop-item-preserved c = record {
  judged =
      turn_done (item_judged (text_of c.args.frame.now)) c.args.items.now c.loop-item.item-index _ _ c.loop-item.invariant.judged c.item-item.result c.in_ok-judged.judged _ c.loop-item-test.true c.item-item.is
      (ap (λ (t : Frame). item_judged t c.item-item.result) (sym c.loop-item.invariant.kept) ∙ c.in_ok-judged.ensures.judged) c.in_ok-push.ensures.ok;
  kept = c.in_ok-judged.ensures.kept ∙ c.loop-item.invariant.kept;
}

pub returns-clause-judged : goal.returns-clause-judged
returns-clause-judged c =
    turn_end (item_judged (text_of c.args.frame.now)) c.args.items.now c.loop-item.item-index _ _ c.loop-item.invariant.judged c.loop-item-test.false
