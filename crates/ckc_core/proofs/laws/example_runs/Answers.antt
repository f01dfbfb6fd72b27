use Rattle.std.proofs.Common.{refl}
use Rattle.ckc_base.specs.Steps.{shown}
use Rattle.ckc_base.specs.Memory.{first_memory, bytes_from, with_byte, with_bytes}
use Rattle.ckc_base.specs.Activations.{with_written, first_values}
use Rattle.ckc_core.specs.Meaning.{core_step}
use Rattle.ckc_core.proofs.laws.example_runs.Goals as goal

pub returns-clause-goes_on : goal.returns-clause-goes_on
unfolding shown first_memory bytes_from with_byte with_bytes with_written first_values core_step
returns-clause-goes_on c = refl

pub returns-clause-stops : goal.returns-clause-stops
unfolding shown first_memory bytes_from with_byte with_bytes with_written first_values core_step
returns-clause-stops c = refl
