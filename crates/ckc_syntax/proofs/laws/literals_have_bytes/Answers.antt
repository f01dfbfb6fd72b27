use Rattle.ckc_syntax.proofs.Decoding.{literal_decoded}
use Rattle.ckc_syntax.proofs.laws.literals_have_bytes.Goals as goal

pub returns : goal.returns
returns c = literal_decoded
