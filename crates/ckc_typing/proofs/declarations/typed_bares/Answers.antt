use Rattle.std.proofs.lemmas.Result.{err_from_is_err_and}
use Rattle.ckc_typed.specs.Declarations.{bare_typed, bares_typed}
use Rattle.ckc_base.proofs.Ends.{stops}
use Rattle.ckc_base.proofs.Turns.{begin, turn_fault, turn_done, turn_end}
use Rattle.ckc_typing.proofs.declarations.typed_bares.Goals as goal

pub loop-d-init : goal.loop-d-init
loop-d-init c = begin (bares_typed c.args.globals.now c.args.variables.now c.args.mode c.args.ds.now) _ c.new-all.ensures

pub returns-in_err-typed : goal.returns-in_err-typed
returns-in_err-typed c =
    let f = bare_typed c.args.globals.now c.args.variables.now c.args.mode in
    let p = err_from_is_err_and c.from_residual.result c.from_residual.ensures.1 in
    stops (f c.d-item.result) (bares_typed c.args.globals.now c.args.variables.now c.args.mode c.args.ds.now) c.from_residual.result p.0 c.in_err-typed.field-0.0 p.1 p.2 c.in_err-typed.ensures
    (turn_fault f c.args.ds.now c.loop-d.d-index _ _ c.loop-d.invariant c.d-item.result c.loop-d-test.true c.d-item.is)

pub loop-d-preserved : goal.loop-d-preserved
loop-d-preserved c =
    turn_done (bare_typed c.args.globals.now c.args.variables.now c.args.mode) c.args.ds.now c.loop-d.d-index _ _ c.loop-d.invariant c.d-item.result c.in_ok-typed.typed _ c.loop-d-test.true c.d-item.is c.in_ok-typed.ensures c.in_ok-push.ensures.ok

pub returns : goal.returns
returns c = turn_end (bare_typed c.args.globals.now c.args.variables.now c.args.mode) c.args.ds.now c.loop-d.d-index _ _ c.loop-d.invariant c.loop-d-test.false
