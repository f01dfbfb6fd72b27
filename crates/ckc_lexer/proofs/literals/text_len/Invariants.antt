use Rattle.std.proofs.Common.{◌-◌, length}
use Rattle.ckc_lexer.proofs.LiteralFronts.{Scanned}
use Rattle.ckc_lexer.proofs.literals.text_len.Given as goal

abbrev pub invariant-loop-piece : goal.invariant-loop-piece
invariant-loop-piece l = Scanned 34 l.text l.len

abbrev pub decreases-loop-piece : goal.decreases-loop-piece
decreases-loop-piece l = length l.text - l.len
