use Rattle.ckc_blame_sound.proofs.Members.{have_own_names}
use Rattle.ckc_blame_sound.proofs.texts_laws.members_have_own_names.Goals as goal

pub returns : goal.returns
returns c = have_own_names
