use Rattle.ckc_rv.proofs.Rows.{decoded_law}
use Rattle.ckc_rv.proofs.laws.decoded_by_rows.Goals as goal

pub returns : goal.returns
returns c = decoded_law
