use Rattle.std.proofs.Common.{◌∙◌, ap, sym, subst}
use Rattle.ckc_base.specs.Outcomes.{AnswersOutcome}
use Rattle.ckc_bounds_extents.specs.ckc_bounds_points.specs.Flow.{state}
use Rattle.ckc_bounds_extents.specs.ckc_bounds_views.specs.Views.{view_of_node}
use Rattle.ckc_bounds_judged.proofs.Nodes.{call_is}
use Rattle.ckc_bounds_judged.proofs.expressions.+judge_as.Goals as goal

pub judge_node-returns-in-Call : goal.judge_node-returns-in-Call
judge_node-returns-in-Call t c =
    let q = ap (λ d. (view_of_node c.args.frame.now d).judged c.args.t.now c.args.first_fresh (state c.args.at.now)) c.in-Call.is
    ∙ call_is c.args.frame.now c.in-Call.n c.in-Call.es c.args.t.now c.args.first_fresh (state c.args.at.now) in
    subst (λ o. AnswersOutcome c.judge_call.result o) (sym q) c.judge_call.ensures
