use Rattle.ckc_typed_plain.proofs.Given.{plain_given}
use Rattle.ckc_typed_plain.proofs.laws.plain_texts_are_given.Goals as goal

pub returns : goal.returns
returns c = record { given = plain_given }
