use Rattle.std.proofs.Common.{refl}
use Rattle.ckc_base.specs.Steps.{shown}
use Rattle.ckc_base.specs.Memory.{first_memory, bytes_from, with_byte, with_bytes}
use Rattle.ckc_base.specs.Activations.{with_written, first_values}
use Rattle.ckc_tac.specs.Meaning.{tac_step}
use Rattle.ckc_tac.proofs.laws.example_runs.Goals as goal

pub returns-clause-goes_on : goal.returns-clause-goes_on
unfolding shown first_memory bytes_from with_byte with_bytes with_written first_values tac_step
returns-clause-goes_on c = refl

pub returns-clause-ends : goal.returns-clause-ends
unfolding shown first_memory bytes_from with_byte with_bytes with_written first_values tac_step
returns-clause-ends c = refl

pub returns-clause-stuck : goal.returns-clause-stuck
unfolding shown first_memory bytes_from with_byte with_bytes with_written first_values tac_step
returns-clause-stuck c = refl
