use Rattle.ckc_typed_plain.proofs.Fits.{texts_fit}
use Rattle.ckc_typed_plain.proofs.laws.plain_texts_fit.Goals as goal

pub returns : goal.returns
returns c = record { fit = texts_fit }
