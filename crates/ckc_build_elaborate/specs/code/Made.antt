-- Destinations that the code makes, as plain data.
use Rattle.ckc_source.specs.Code as code
use Rattle.ckc_build_elaborate.specs.declared.destinations.Destination as made
use Rattle.ckc_build_elaborate.specs.Steps.{Destination}

abbrev pub destination_made : made.Destination → Destination
destination_made d = record { target = code.target_of d.target; kept = d.kept; terminated = d.terminated }
