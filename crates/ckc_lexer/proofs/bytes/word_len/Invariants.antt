use Rattle.std.proofs.Common.{◌≡◌, ℕ, ◌<◌, true, get_or}
use Rattle.ckc_lexer.specs.Bytes.{is_word_byte}
use Rattle.ckc_lexer.proofs.bytes.word_len.Given as goal

abbrev pub invariant-loop-k : goal.invariant-loop-k
invariant-loop-k l = (k : ℕ) → k < l.k → is_word_byte (get_or l.text k 0) ≡ true
