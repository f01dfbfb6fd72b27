use Rattle.ckc_parser_values.proofs.Chains.{last_joined}
use Rattle.ckc_parser_values.proofs.joins.join_last.Goals as goal

pub returns-then-joins_first : goal.returns-then-joins_first
returns-then-joins_first c = last_joined c.args.first c.in_ok-whole.whole c.args.step c.joins_first.result c.if-joins_first.true c.joins_first.ensures c.in_ok-whole.ensures
