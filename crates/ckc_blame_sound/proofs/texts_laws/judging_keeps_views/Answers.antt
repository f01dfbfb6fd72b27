use Rattle.ckc_blame_sound.proofs.SameViews.{same_view}
use Rattle.ckc_blame_sound.proofs.texts_laws.judging_keeps_views.Goals as goal

pub returns : goal.returns
returns c = λ frame other e f fresh at is. same_view frame e f fresh at is other
