use Rattle.ckc_lexer.specs.Bytes.{is_word_byte}
use Rattle.ckc_lexer.specs.Numbers.{NumberCases}
use Rattle.std.proofs.Common.{refl}
use Rattle.ckc_lexer.proofs.Fronts.{run_longest}
use Rattle.ckc_lexer.proofs.numbers.number_at.Goals as goal

pub returns-in-Some : goal.returns-in-Some
returns-in-Some c = run_longest is_word_byte NumberCases c.word_len-len.ensures c.requires.some c.requires.word c.in-Some.ensures

pub returns-in-None : goal.returns-in-None
returns-in-None c = run_longest is_word_byte NumberCases c.word_len-len.ensures c.requires.some c.requires.word (refl, c.in-None.ensures)
