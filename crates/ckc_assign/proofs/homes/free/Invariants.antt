use Rattle.std.specs.Prelude.{ℕ, ◌<◌, ◌≤◌}
use Rattle.ckc_assign.specs.code.Homes.{holder_of}
use Rattle.ckc_assign.specs.code.Ranges.{range_of}
use Rattle.ckc_assign.proofs.homes.free.Given as goal

abbrev pub invariant-loop-h : goal.invariant-loop-h
invariant-loop-h l = (k : ℕ) → k < l.h → l.place ≤ (range_of l.ranges (holder_of l.holders k)).last
