use Rattle.std.proofs.Common.{◌≤◌, drop, map, length}
use Rattle.ckc_source.specs.Code.{assign_of}
use Rattle.ckc_build_words.specs.Places.{AssignsPlaces}
use Rattle.ckc_build_words.proofs.statements.assigns_places.Given as goal

abbrev pub invariant-loop-i : goal.invariant-loop-i
invariant-loop-i l = record {
  within : l.i ≤ length l.all;
  fit : AssignsPlaces (map assign_of (drop l.i l.all));
}

abbrev pub decreases-loop-i : goal.decreases-loop-i
decreases-loop-i l = l.i
