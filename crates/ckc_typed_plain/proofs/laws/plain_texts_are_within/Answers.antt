use Rattle.ckc_typed_plain.proofs.Stay.{small_kept}
use Rattle.ckc_typed_plain.proofs.laws.plain_texts_are_within.Goals as goal

pub returns : goal.returns
returns c = record { small = small_kept }
