use Rattle.std.proofs.Common.{◌≡◌, ◌≤◌, ℕ, List, get_or, length}
use Rattle.ckc_tac.specs.declared.code.TacBlock.{TacBlock}
use Rattle.ckc_passes_jumps.specs.Jumps.{IsPlace}
use Rattle.ckc_passes_jumps.specs.code.Reached.{AreReached, ArePlaced}
use Rattle.ckc_passes_jumps.proofs.places.places.Given as goal

abbrev pub invariant-loop-b : goal.invariant-loop-b
invariant-loop-b l = record {
  few : l.count ≤ l.b;
  long : length l.places.items ≡ l.b;
  small : (p : ℕ) → get_or l.places.items p 0 ≤ p;
  right : (blocks : List TacBlock) → AreReached blocks l.marks → ArePlaced blocks l.b l.places.items × IsPlace blocks l.b l.count;
}
