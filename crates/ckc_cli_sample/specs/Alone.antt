-- What the machine of an image shows that is given no input.
use Rattle.std.specs.Prelude.{◌≡◌, ℕ, [], length}
use Rattle.ckc_base.specs.Traces.{output}
use Rattle.ckc_rv.specs.Machine.{Parts, machine}
use Rattle.ckc_machine.specs.declared.observed.Observed.{Observed}
use Rattle.ckc_machine.specs.Runs.{Says}

-- After so many instructions at most the machine stands so, and has put so many bytes.
pub record RunsAlone (parts : Parts) (limit : ℕ) (o : Observed) (count : ℕ) : Type 0 where
  pub stands : Says o (machine parts [] limit).standing
  pub put : count ≡ length (output (machine parts [] limit).trace)
