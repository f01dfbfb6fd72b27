use Rattle.ckc_scopes.proofs.Firsts.{scoping_codes}
use Rattle.ckc_scopes.proofs.laws.codes.Goals as goal

pub returns : goal.returns
returns c = scoping_codes
