use Rattle.std.proofs.Common.{◌≡◌, ◌+◌, ◌-◌, ◌≤◌, ◌++◌, length, drop, map}
use Rattle.ckc_asm.specs.Cut.{cut}
use Rattle.ckc_asm.specs.code.Rows.{word_of}
use Rattle.ckc_asm.proofs.spots.words_of.Given as goal

abbrev pub invariant-loop-at : goal.invariant-loop-at
invariant-loop-at l = record {
  within : l.at ≤ length l.line;
  words : map word_of l.words.items ++ cut (l.at + 1) (drop l.at l.line) ≡ cut 1 l.line;
}

abbrev pub decreases-loop-at : goal.decreases-loop-at
decreases-loop-at l = length l.line - l.at
