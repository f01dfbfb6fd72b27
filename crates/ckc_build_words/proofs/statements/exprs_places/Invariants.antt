use Rattle.std.proofs.Common.{◌≤◌, drop, map, length}
use Rattle.ckc_source.specs.Code.{expr_of}
use Rattle.ckc_build_words.specs.Places.{ExprsPlaces}
use Rattle.ckc_build_words.proofs.statements.exprs_places.Given as goal

abbrev pub invariant-loop-i : goal.invariant-loop-i
invariant-loop-i l = record {
  within : l.i ≤ length l.es;
  fit : ExprsPlaces (map expr_of (drop l.i l.es));
}

abbrev pub decreases-loop-i : goal.decreases-loop-i
decreases-loop-i l = l.i
