use Rattle.std.proofs.Common.{◌≡◌, ◌≤◌, ◌<◌, ◌*◌, ℕ, get_or}
use Rattle.ckc_machine.specs.Bytes.{byte_in}
use Rattle.ckc_machine.proofs.memory.fill.Given as goal

-- The first words are filled; the others are still 0.
abbrev pub invariant-loop-i : goal.invariant-loop-i
invariant-loop-i l = record {
  filled : (k : ℕ) → k < 4 * l.i → byte_in l.region.words.items k ≡ get_or l.bytes k 0;
  zero : (j : ℕ) → l.i ≤ j → get_or l.region.words.items j 0 ≡ 0;
}
