use Rattle.std.proofs.Common.{◌≡◌}
use Rattle.ckc_lexer.specs.Bytes.{is_word_byte}
use Rattle.ckc_lexer.specs.Words.{word_item}
use Rattle.ckc_lexer.proofs.Fronts.{run_longest}
use Rattle.ckc_lexer.proofs.words.word_at.Goals as goal

pub returns : goal.returns
returns c = run_longest is_word_byte (λ w item. item ≡ word_item c.args.checked w) c.word_len-len.ensures c.requires.some c.requires.word c.word_item-item.ensures
