use Rattle.ckc_blame_sound.proofs.Bares.{same_tree}
use Rattle.ckc_blame_sound.proofs.texts_laws.judging_keeps_trees.Goals as goal

pub returns : goal.returns
returns c = same_tree
