use Rattle.std.proofs.Common.{take}
use Rattle.ckc_linear.specs.code.Runs.{AllStay}
use Rattle.ckc_linear.proofs.facts.others.Given as goal

abbrev pub invariant-loop-k : goal.invariant-loop-k
invariant-loop-k l = AllStay l.x (take l.k l.rest)
