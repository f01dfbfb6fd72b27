use Rattle.ckc_blame_sound.proofs.Literals.{text_strings}
use Rattle.ckc_blame_sound.proofs.texts_laws.strings_have_objects.Goals as goal

pub returns : goal.returns
returns c = text_strings
