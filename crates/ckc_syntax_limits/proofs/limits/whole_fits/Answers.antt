use Rattle.std.proofs.Common.{refl, ◌++◌}
use Rattle.std.proofs.lemmas.Result.{err_from_is_err_and}
use Rattle.ckc_base.specs.Places.{start}
use Rattle.ckc_syntax_limits.specs.Small.{over}
use Rattle.ckc_syntax_limits.proofs.Smalls.{stops, goes, whole_faults}
use Rattle.ckc_syntax_limits.proofs.limits.whole_fits.Goals as goal

pub returns-in_err-at_most : goal.returns-in_err-at_most
returns-in_err-at_most c = λ ms e.
    let p = err_from_is_err_and c.from_residual.result c.from_residual.ensures.1 in
    stops _ p.0 c.in_err-at_most.field-0.0 (over 16384 c.args.tally.nodes 203 start) (over 512 c.args.tally.functions 205 start ++ (over 1024 c.args.tally.statics 205 start ++ over 1024 c.args.tally.texts 205 start)) _ p.1 p.2 c.in_err-at_most.ensures (whole_faults c.args.tally ms e)

pub returns-in_err-at_most-2 : goal.returns-in_err-at_most-2
returns-in_err-at_most-2 c = λ ms e.
    let p = err_from_is_err_and c.from_residual-in_err-at_most-2.result c.from_residual-in_err-at_most-2.ensures.1 in
    goes _ (over 16384 c.args.tally.nodes 203 start) (over 512 c.args.tally.functions 205 start ++ (over 1024 c.args.tally.statics 205 start ++ over 1024 c.args.tally.texts 205 start)) _ c.in_ok-at_most.ensures (stops _ p.0 c.in_err-at_most-2.field-0.0 (over 512 c.args.tally.functions 205 start) (over 1024 c.args.tally.statics 205 start ++ over 1024 c.args.tally.texts 205 start) (over 512 c.args.tally.functions 205 start ++ (over 1024 c.args.tally.statics 205 start ++ over 1024 c.args.tally.texts 205 start)) p.1 p.2 c.in_err-at_most-2.ensures refl) (whole_faults c.args.tally ms e)

pub returns-in_err-at_most-3 : goal.returns-in_err-at_most-3
returns-in_err-at_most-3 c = λ ms e.
    let p = err_from_is_err_and c.from_residual-in_err-at_most-3.result c.from_residual-in_err-at_most-3.ensures.1 in
    goes _ (over 16384 c.args.tally.nodes 203 start) (over 512 c.args.tally.functions 205 start ++ (over 1024 c.args.tally.statics 205 start ++ over 1024 c.args.tally.texts 205 start)) _ c.in_ok-at_most.ensures (goes _ (over 512 c.args.tally.functions 205 start) (over 1024 c.args.tally.statics 205 start ++ over 1024 c.args.tally.texts 205 start) (over 512 c.args.tally.functions 205 start ++ (over 1024 c.args.tally.statics 205 start ++ over 1024 c.args.tally.texts 205 start)) c.in_ok-at_most-2.ensures (stops _ p.0 c.in_err-at_most-3.field-0.0 (over 1024 c.args.tally.statics 205 start) (over 1024 c.args.tally.texts 205 start) (over 1024 c.args.tally.statics 205 start ++ over 1024 c.args.tally.texts 205 start) p.1 p.2 c.in_err-at_most-3.ensures refl) refl) (whole_faults c.args.tally ms e)

pub returns : goal.returns
returns c = λ ms e. goes _ (over 16384 c.args.tally.nodes 203 start) (over 512 c.args.tally.functions 205 start ++ (over 1024 c.args.tally.statics 205 start ++ over 1024 c.args.tally.texts 205 start)) _ c.in_ok-at_most.ensures (goes _ (over 512 c.args.tally.functions 205 start) (over 1024 c.args.tally.statics 205 start ++ over 1024 c.args.tally.texts 205 start) (over 512 c.args.tally.functions 205 start ++ (over 1024 c.args.tally.statics 205 start ++ over 1024 c.args.tally.texts 205 start)) c.in_ok-at_most-2.ensures (goes _ (over 1024 c.args.tally.statics 205 start) (over 1024 c.args.tally.texts 205 start) (over 1024 c.args.tally.statics 205 start ++ over 1024 c.args.tally.texts 205 start) c.in_ok-at_most-3.ensures c.at_most-4.ensures refl) refl) (whole_faults c.args.tally ms e)
