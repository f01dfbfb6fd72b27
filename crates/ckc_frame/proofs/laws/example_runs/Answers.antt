use Rattle.std.proofs.Common.{refl}
use Rattle.ckc_base.specs.Steps.{shown}
use Rattle.ckc_base.specs.Memory.{first_memory, bytes_from, with_byte, with_bytes}
use Rattle.ckc_base.specs.Activations.{with_written}
use Rattle.ckc_frame.specs.Places.{home, registers_in, entry_places, places_kept}
use Rattle.ckc_frame.specs.Meaning.{placed_step}
use Rattle.ckc_frame.proofs.laws.example_runs.Goals as goal

pub returns-clause-kept : goal.returns-clause-kept
unfolding shown first_memory bytes_from with_byte with_bytes with_written home registers_in entry_places places_kept placed_step
returns-clause-kept c = refl

pub returns-clause-lost : goal.returns-clause-lost
unfolding shown first_memory bytes_from with_byte with_bytes with_written home registers_in entry_places places_kept placed_step
returns-clause-lost c = refl
