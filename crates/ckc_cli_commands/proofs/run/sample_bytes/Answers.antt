use Rattle.std.proofs.Common.{refl}
use Rattle.ckc_rv.specs.Machine.{Parts}
use Rattle.ckc_cli_commands.specs.code.Running.{proper, bad}
use Rattle.ckc_cli_commands.proofs.run.sample_bytes.Goals as goal

pub returns-in-Err-clause-over : goal.returns-in-Err-clause-over
returns-in-Err-clause-over g c = bad c.in-Err.bad.0 c.in-Err.ensures.parts refl refl

pub returns-in-Ok-clause-over : goal.returns-in-Ok-clause-over
returns-in-Ok-clause-over g c =
    let v = c.in-Ok.view in
    let parts : Parts = record { entry = v.entry; code = v.code.now; initial = v.initial.now } in
    proper v.format parts c.in-Ok.ensures.parts (c.sample_view.ensures.tried parts refl refl refl)
