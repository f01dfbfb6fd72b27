use Rattle.ckc_typed_plain.proofs.Found.{names_visible, tags_have_bodies}
use Rattle.ckc_typed_plain.proofs.laws.plain_names_are_visible.Goals as goal

pub returns : goal.returns
returns c = record { names = names_visible; tags = tags_have_bodies }
