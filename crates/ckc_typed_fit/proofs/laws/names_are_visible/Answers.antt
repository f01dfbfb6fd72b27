use Rattle.ckc_typed_fit.proofs.Found.{names_visible, tags_have_bodies}
use Rattle.ckc_typed_fit.proofs.laws.names_are_visible.Goals as goal

pub returns : goal.returns
returns c = record { names = names_visible; tags = tags_have_bodies }
