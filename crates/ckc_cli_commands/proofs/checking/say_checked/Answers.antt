use Rattle.std.proofs.Common.{◌++◌, ℕ, List, take, Some, refl, ap, ◌∙◌}
use Rattle.ckc_cli_calls.proofs.Reports.{rose_by_one}
use Rattle.ckc_cli_commands.specs.Running.{whole, front}
use Rattle.ckc_cli_commands.proofs.checking.say_checked.Goals as goal

pub returns-in-Ok-clause-listed : goal.returns-in-Ok-clause-listed
returns-in-Ok-clause-listed g c = whole refl (λ before e. c.in-Ok.ensures.told before e ∙ ap (λ (l : List ℕ). Some (before ++ l)) c.line_of.ensures)

pub returns-in-Err-clause-listed : goal.returns-in-Err-clause-listed
returns-in-Err-clause-listed g c =
    front refl (rose_by_one _ _ c.in-Err.ensures.faults)
    (λ before e. (let t = c.in-Err.ensures.told before e in (t.0, t.1 ∙ ap (λ (l : List ℕ). Some (before ++ take t.0 l)) c.line_of.ensures)))
