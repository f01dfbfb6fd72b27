use Rattle.ckc_emit.proofs.CallsEmitted.{call_emits}
use Rattle.ckc_emit.proofs.calls.put_call.Goals as goal

pub returns : goal.returns
returns c =
    call_emits c.put_restores.result c.args.homes.now c.args.row.now c.args.params.now c.args.label c.args.args.now c.args.at _ _ _ _ _ _ _ _
    c.kept_homes-kept.ensures c.saved_homes-saved.ensures c.in_ok-put_saves.ensures c.in_ok-put_depth.ensures c.in_ok-put_arguments.ensures c.in_ok-put_visit.ensures c.put_restores.ensures
