use Rattle.ckc_blame_walk.proofs.Counts.{slot_parts}
use Rattle.ckc_blame_walk.proofs.NamedStatics.{members_named}
use Rattle.ckc_blame_walk.proofs.first_laws.slots_are_parts.Goals as goal

pub returns : goal.returns
returns c = record { named = members_named; parts = λ p j. slot_parts p j (members_named p j) }
