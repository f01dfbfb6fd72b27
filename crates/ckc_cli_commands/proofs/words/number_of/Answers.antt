use Rattle.ckc_cli_commands.proofs.Limits.{not_number}
use Rattle.ckc_cli_commands.proofs.words.number_of.Goals as goal

pub returns-in-Err : goal.returns-in-Err
returns-in-Err c = λ n h. not_number c.args.most c.args.word.now n c.requires h (λ p. c.in-Err.ensures.value.0 p)
