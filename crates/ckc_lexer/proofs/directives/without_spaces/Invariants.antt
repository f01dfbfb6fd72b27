use Rattle.std.proofs.Common.{◌≡◌, ℕ, ◌<◌, ◌≤◌, true, length, get_or}
use Rattle.ckc_lexer.specs.Bytes.{is_space}
use Rattle.ckc_lexer.proofs.directives.without_spaces.Given as goal

abbrev pub invariant-loop-len : goal.invariant-loop-len
invariant-loop-len l = record {
  within : l.len ≤ length l.line;
  spaces : (k : ℕ) → l.len ≤ k → k < length l.line → is_space (get_or l.line k 0) ≡ true;
}

abbrev pub decreases-loop-len : goal.decreases-loop-len
decreases-loop-len l = l.len
