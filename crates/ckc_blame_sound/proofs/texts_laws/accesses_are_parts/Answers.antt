use Rattle.ckc_blame_sound.proofs.Accesses.{member_part, scalar_part}
use Rattle.ckc_blame_sound.proofs.texts_laws.accesses_are_parts.Goals as goal

pub returns : goal.returns
returns c = record { members = member_part; scalars = scalar_part }
