use Rattle.std.specs.Prelude.{◌<◌, length, IfSome}
use Rattle.ckc_assign.proofs.homes.least.Given as goal

abbrev pub invariant-loop-h : goal.invariant-loop-h
invariant-loop-h l = IfSome l.found (λ k. k < length l.holders)
