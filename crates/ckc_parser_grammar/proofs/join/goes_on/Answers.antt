use Rattle.std.proofs.Common.{arith}
use Rattle.ckc_parser_grammar.proofs.Joining.{done_empty, done_last}
use Rattle.ckc_parser_grammar.proofs.join.goes_on.Goals as goal

pub returns-then-tightness-gt0-clause-done : goal.returns-then-tightness-gt0-clause-done
returns-then-tightness-gt0-clause-done c = done_empty c.is_empty.result c.args.tightness c.args.chain.now.first c.args.chain.now.steps c.is_empty.ensures.0

pub returns-else-tightness-gt0-clause-done : goal.returns-else-tightness-gt0-clause-done
returns-else-tightness-gt0-clause-done c = done_last _ c.args.tightness (c.args.chain.now.first, c.args.chain.now.steps) (omega (arith, c.if-tightness-gt0.false))
