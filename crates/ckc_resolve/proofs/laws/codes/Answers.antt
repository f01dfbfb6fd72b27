use Rattle.ckc_resolve.proofs.CodedItems.{refused_codes}
use Rattle.ckc_resolve.proofs.laws.codes.Goals as goal

pub returns : goal.returns
returns c = record { codes = refused_codes }
