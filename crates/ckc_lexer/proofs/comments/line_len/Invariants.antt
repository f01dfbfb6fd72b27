use Rattle.std.proofs.Common.{◌≡◌, ℕ, ◌<◌, true, not, get_or}
use Rattle.ckc_lexer.specs.Bytes.{is_feed}
use Rattle.ckc_lexer.proofs.comments.line_len.Given as goal

abbrev pub invariant-loop-k : goal.invariant-loop-k
invariant-loop-k l = (k : ℕ) → k < l.k → not (is_feed (get_or l.text k 0)) ≡ true
