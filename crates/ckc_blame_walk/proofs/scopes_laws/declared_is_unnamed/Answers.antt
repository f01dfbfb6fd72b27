use Rattle.ckc_blame_walk.proofs.Seen.{declared_unnamed}
use Rattle.ckc_blame_walk.proofs.scopes_laws.declared_is_unnamed.Goals as goal

pub returns : goal.returns
returns c = declared_unnamed
