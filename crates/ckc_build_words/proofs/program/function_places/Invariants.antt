use Rattle.std.proofs.Common.{◌≤◌, drop, map, length}
use Rattle.ckc_source.specs.Code.{function_of}
use Rattle.ckc_build_words.specs.Places.{FunctionsPlaces}
use Rattle.ckc_build_words.proofs.program.function_places.Given as goal

abbrev pub invariant-loop-i : goal.invariant-loop-i
invariant-loop-i l = record {
  within : l.i ≤ length l.functions;
  fit : FunctionsPlaces (map function_of (drop l.i l.functions));
}

abbrev pub decreases-loop-i : goal.decreases-loop-i
decreases-loop-i l = l.i
