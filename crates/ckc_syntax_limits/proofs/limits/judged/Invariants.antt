use Rattle.std.proofs.Common.{◌≡◌, drop}
use Rattle.std.specs.Prelude.{flat_map}
use Rattle.ckc_syntax_limits.specs.Marks.{marks_of_item}
use Rattle.ckc_syntax_limits.specs.Small.{faults_of_item}
use Rattle.ckc_syntax_limits.specs.code.Tally.{tallied, nothing}
use Rattle.ckc_syntax_limits.proofs.limits.judged.Given as goal

-- the items so far break nothing, and counting what is left gives what counting the whole gives
abbrev pub invariant-loop-item : goal.invariant-loop-item
invariant-loop-item g l = record {
  faults : flat_map faults_of_item l.item-items ≡ flat_map faults_of_item (drop l.item-index l.item-items);
  marks : tallied nothing (flat_map marks_of_item l.item-items) ≡ tallied l.whole (flat_map marks_of_item (drop l.item-index l.item-items));
}
