use Rattle.std.proofs.Common.{map}
use Rattle.ckc_syntax.specs.Spelled.{spelled}
use Rattle.ckc_parser.proofs.Built.{built_answer}
use Rattle.ckc_parser.proofs.text.parse.Goals as goal

pub returns-in-Ok-text_of : goal.returns-in-Ok-text_of
returns-in-Ok-text_of c = record {
  exact = built_answer (map spelled c.args.tokens.now) c.args.end c.in-Ok.trace c.in-Ok-build.held c.in-Ok-text_of.items c.in-Ok.ensures c.in-Ok-build.ensures c.in-Ok-text_of.ensures;
}
