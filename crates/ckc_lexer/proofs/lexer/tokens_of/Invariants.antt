use Rattle.std.proofs.Common.{length}
use Rattle.ckc_lexer.proofs.Reading.{ReadTo}
use Rattle.ckc_lexer.proofs.lexer.tokens_of.Given as goal

abbrev pub invariant-loop-rest : goal.invariant-loop-rest
invariant-loop-rest l = ReadTo l.text l.tokens l.here l.checked l.rest

abbrev pub decreases-loop-rest : goal.decreases-loop-rest
decreases-loop-rest l = length l.rest
