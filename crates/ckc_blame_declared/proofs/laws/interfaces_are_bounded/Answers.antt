use Rattle.ckc_blame_declared.proofs.Interfaces.{interfaces_read, interfaces_bounded}
use Rattle.ckc_blame_declared.proofs.laws.interfaces_are_bounded.Goals as goal

pub returns : goal.returns
returns c = record { reads = interfaces_read; bounded = interfaces_bounded }
