use Rattle.ckc_blame_control.proofs.Moved.{first_ends, first_returns}
use Rattle.ckc_blame_control.proofs.laws.first_calls_end.Goals as goal

pub returns : goal.returns
returns c = record { falls = first_ends; returns = first_returns }
