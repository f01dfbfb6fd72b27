use Rattle.std.proofs.Common.{◌≡◌, ◌∙◌, ap, sym, subst}
use Rattle.std.specs.Prelude.{IfOk}
use Rattle.ckc_bounds_views.specs.ckc_bounds_points.specs.Flow.{state}
use Rattle.ckc_bounds_views.specs.Views.{view_of_node}
use Rattle.ckc_bounds_extents.proofs.Nodes.{call_is}
use Rattle.ckc_bounds_extents.proofs.ranges.+range.Goals as goal

pub range_of_node-returns-in-Call : goal.range_of_node-returns-in-Call
range_of_node-returns-in-Call t c =
    let q = ap (λ d. (view_of_node c.args.frame.now d).range c.args.t.now c.args.own c.args.first_value c.args.first_fresh (state c.args.at.now)) c.in-Call.is
    ∙ call_is c.args.frame.now c.in-Call.n c.in-Call.es c.args.t.now c.args.own c.args.first_value c.args.first_fresh (state c.args.at.now) in
    subst (λ v. IfOk c.range_of_call.result (λ r. r ≡ v)) (sym q) c.range_of_call.ensures
