use Rattle.std.proofs.Common.{refl}
use Rattle.ckc_cli_calls.proofs.Reports.{rose_by_one}
use Rattle.ckc_cli_commands.specs.Sampling.{all_lines, some_lines}
use Rattle.ckc_cli_commands.proofs.run.say_ended.Goals as goal

pub returns-in-Ok-clause-lined : goal.returns-in-Ok-clause-lined
returns-in-Ok-clause-lined g c = all_lines refl (λ before e. c.in-Ok.ensures.told before e) c.in-Ok.ensures.pieces

pub returns-in-Err-clause-lined : goal.returns-in-Err-clause-lined
returns-in-Err-clause-lined g c =
    let p = c.in-Err.ensures.pieces in
    some_lines p.0 p.1 refl (rose_by_one _ _ c.in-Err.ensures.faults) (λ before e. c.in-Err.ensures.told before e) p.2
