use Rattle.ckc_blame_sound.proofs.Sizes.{sizes_are_words}
use Rattle.ckc_blame_sound.proofs.texts_laws.sizes_are_words.Goals as goal

pub returns : goal.returns
returns c = sizes_are_words
