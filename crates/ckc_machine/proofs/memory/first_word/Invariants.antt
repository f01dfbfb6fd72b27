use Rattle.std.proofs.Common.{◌≡◌, ◌≤◌, ◌<◌, ℕ, get_or, length}
use Rattle.ckc_machine.proofs.memory.first_word.Given as goal

-- The first bytes are copied; the others are still 0.
abbrev pub invariant-loop-i : goal.invariant-loop-i
invariant-loop-i l = record {
  four : length l.word ≡ 4;
  copied : (j : ℕ) → j < l.i → get_or l.word j 0 ≡ get_or l.bytes j 0;
  zero : (j : ℕ) → l.i ≤ j → get_or l.word j 0 ≡ 0;
}
