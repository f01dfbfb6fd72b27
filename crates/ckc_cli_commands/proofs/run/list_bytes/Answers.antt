use Rattle.std.proofs.Common.{refl}
use Rattle.ckc_cli_commands.specs.Running.{whole, front}
use Rattle.ckc_cli_commands.specs.code.Running.{proper, bad}
use Rattle.ckc_cli_calls.proofs.Reports.{rose_by_one}
use Rattle.ckc_cli_commands.proofs.run.list_bytes.Goals as goal

pub returns-in-Err-clause-over : goal.returns-in-Err-clause-over
returns-in-Err-clause-over g c = bad c.in-Err.bad.0 c.in-Err.ensures.parts refl refl

pub returns-in-Ok-show-clause-over : goal.returns-in-Ok-show-clause-over
returns-in-Ok-show-clause-over g c =
    let v = c.in-Ok.view in
    proper v.format (record { entry = v.entry; code = v.code.now; initial = v.initial.now }) c.in-Ok.ensures.parts (whole refl (λ before e. c.in-Ok-show.ensures.told before e))

pub returns-in-Err-show-clause-over : goal.returns-in-Err-show-clause-over
returns-in-Err-show-clause-over g c =
    let v = c.in-Ok.view in
    proper v.format (record { entry = v.entry; code = v.code.now; initial = v.initial.now }) c.in-Ok.ensures.parts (front refl (rose_by_one _ _ c.in-Err-show.ensures.faults) (λ before e. c.in-Err-show.ensures.told before e))
