use Rattle.std.proofs.Common.{◌≡◌, ◌+◌, ◌≤◌, length, drop}
use Rattle.std.specs.List.{prefix_len}
use Rattle.ckc_asm.specs.Cut.{is_word_byte}
use Rattle.ckc_asm.proofs.spots.run_len.Given as goal

abbrev pub invariant-loop-k : goal.invariant-loop-k
invariant-loop-k l = (l.k ≤ length l.rest) × (l.k + prefix_len is_word_byte (drop l.k l.rest) ≡ prefix_len is_word_byte l.rest)
