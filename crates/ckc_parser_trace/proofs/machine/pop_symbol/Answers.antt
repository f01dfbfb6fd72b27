use Rattle.ckc_parser_trace.proofs.Bytes.{popped_item}
use Rattle.ckc_parser_trace.proofs.machine.pop_symbol.Goals as goal

pub returns : goal.returns
returns c = popped_item c.args.stack.now.items c.pop.new.self.items c.args.stack.now.len c.pop.new.self.len c.pop.result c.pop.ensures.items c.pop.ensures.rest c.pop.ensures.cases
