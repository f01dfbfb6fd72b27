use Rattle.ckc_scopes.proofs.Firsts.{scoping_exact}
use Rattle.ckc_scopes.proofs.laws.is_exact.Goals as goal

pub returns : goal.returns
returns c = scoping_exact
