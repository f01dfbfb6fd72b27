use Rattle.std.proofs.Common.{◌≤◌, ◌-◌, length, take}
use Rattle.ckc_linear.specs.code.Runs.{AllStay}
use Rattle.ckc_linear.proofs.facts.passed_over.Given as goal

abbrev pub invariant-tests : goal.invariant-tests
invariant-tests l = record {
  within : l.at ≤ length l.facts;
  stay : AllStay l.x (take l.at l.facts);
}

abbrev pub decreases-tests : goal.decreases-tests
decreases-tests l = length l.facts - l.at
