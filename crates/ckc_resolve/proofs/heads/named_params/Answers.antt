use Rattle.ckc_resolve.specs.Heads.{param_named, params_named}
use Rattle.ckc_base.proofs.Sequels.{begin, turn_stops, turn_done, turn_end}
use Rattle.ckc_resolve.proofs.heads.named_params.Goals as goal

pub loop-decl-init : goal.loop-decl-init
loop-decl-init c = begin (params_named c.args.names.now c.args.all.now c.args.decls.now c.args.before.now) _ c.new-out.ensures

pub returns-in_err-named : goal.returns-in_err-named
returns-in_err-named c =
    turn_stops (param_named c.args.names.now c.args.all.now) c.args.decls.now c.loop-decl.decl-index c.loop-decl.before _ _ c.loop-decl.invariant c.decl-item.result c.loop-decl-test.true c.decl-item.is _ _ c.from_residual.result c.in_err-named.field-0.0 c.from_residual.ensures.1 c.in_err-named.ensures

pub loop-decl-preserved : goal.loop-decl-preserved
loop-decl-preserved c =
    turn_done (param_named c.args.names.now c.args.all.now) c.args.decls.now c.loop-decl.decl-index c.loop-decl.before _ _ c.loop-decl.invariant c.decl-item.result c.in_ok-named.named _ _ c.loop-decl-test.true c.decl-item.is c.in_ok-named.ensures c.in_ok-push.ensures.ok

pub returns : goal.returns
returns c = turn_end (param_named c.args.names.now c.args.all.now) c.args.decls.now c.loop-decl.decl-index _ _ _ c.loop-decl.invariant c.loop-decl-test.false
