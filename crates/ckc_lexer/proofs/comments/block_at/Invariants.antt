use Rattle.std.proofs.Common.{◌≡◌, ℕ, ◌+◌, ◌-◌, ◌<◌, ◌≤◌, length, get_or}
use Rattle.ckc_lexer.proofs.comments.block_at.Given as goal

-- no `*/` so far after the first two bytes
abbrev pub invariant-loop-len : goal.invariant-loop-len
invariant-loop-len l = record {
  behind : 2 ≤ l.len;
  within : l.len ≤ length l.text;
  no_end : (k : ℕ) → 2 ≤ k → k < l.len → get_or l.text k 0 ≡ 42 → get_or l.text (k + 1) 0 ≡ 47 → ⊥;
}

abbrev pub decreases-loop-len : goal.decreases-loop-len
decreases-loop-len l = length l.text - l.len
