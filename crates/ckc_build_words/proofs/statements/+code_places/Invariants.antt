use Rattle.std.proofs.Common.{◌≤◌, drop, length}
use Rattle.ckc_source.specs.Code.{code_of}
use Rattle.ckc_build_words.specs.Places.{CodePlaces}
use Rattle.ckc_build_words.proofs.statements.+code_places.Given as goal

abbrev pub decreases-code_places : goal.decreases-code_places
decreases-code_places l = goal.size-code_places l

abbrev pub invariant-loop-i : goal.invariant-loop-i
invariant-loop-i l = record {
  within : l.i ≤ length l.stmts;
  fit : CodePlaces (code_of (drop l.i l.stmts));
}

abbrev pub decreases-loop-i : goal.decreases-loop-i
decreases-loop-i l = l.i
