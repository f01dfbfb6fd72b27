use Rattle.ckc_lexer.proofs.PlaceLaw.{end_place}
use Rattle.ckc_lexer.proofs.lexer.end_of.Goals as goal

pub returns : goal.returns
returns c = end_place c.args.text.now c.moved-end.result c.moved-end.ensures
