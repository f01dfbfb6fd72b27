use Rattle.std.proofs.lemmas.Result.{err_from_is_err_and}
use Rattle.ckc_syntax_limits.specs.Small.{over}
use Rattle.ckc_syntax_limits.proofs.Smalls.{stops, goes, function_faults}
use Rattle.ckc_syntax_limits.proofs.limits.function_fits.Goals as goal

pub returns-in_err-at_most : goal.returns-in_err-at_most
returns-in_err-at_most c = λ ms e.
    let p = err_from_is_err_and c.from_residual.result c.from_residual.ensures.1 in
    stops _ p.0 c.in_err-at_most.field-0.0 (over 1000 c.args.tally.nodes 203 c.args.pos) (over 255 c.args.tally.locals 204 c.args.pos) _ p.1 p.2
    c.in_err-at_most.ensures (function_faults c.args.tally ms c.args.pos e)

pub returns : goal.returns
returns c = λ ms e.
    goes _ (over 1000 c.args.tally.nodes 203 c.args.pos) (over 255 c.args.tally.locals 204 c.args.pos) _ c.in_ok-at_most.ensures c.at_most-2.ensures
    (function_faults c.args.tally ms c.args.pos e)
