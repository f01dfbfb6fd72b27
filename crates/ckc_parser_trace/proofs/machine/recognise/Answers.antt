use Rattle.std.proofs.Common.{map, subst}
use Rattle.ckc_syntax.specs.Spelled.{spelled}
use Rattle.ckc_parser_grammar.specs.code.Marked.{ahead}
use Rattle.ckc_parser_grammar.specs.code.Trace.{events}
use Rattle.ckc_parser_trace.specs.code.Turns.{symbol_of}
use Rattle.ckc_parser_trace.specs.code.Runs.{symbols_on, Ends}
use Rattle.ckc_parser_trace.proofs.Recognised.{ended_answer, stopped_answer}
use Rattle.ckc_parser_trace.proofs.machine.recognise.Goals as goal

pub returns-in_default : goal.returns-in_default
returns-in_default c = ended_answer (map spelled c.args.tokens.now) c.args.end (ahead c.loop.reader) c.loop.trace.items (symbols_on c.loop.stack.items) c.ended.result c.loop.invariant c.in_default.ensures
    (subst (λ z. Ends (ahead c.loop.reader) c.args.end z c.ended.result) c.from_vec.ensures c.ended.ensures)

pub returns-in-Err : goal.returns-in-Err
returns-in-Err c =
    stopped_answer (map spelled c.args.tokens.now) c.args.end (symbol_of c.in-Some.symbol) (symbols_on c.pop_symbol.new.stack.items) (symbols_on c.loop.stack.items) (symbols_on c.go_on.new.stack.items) (ahead c.loop.reader) (ahead c.go_on.new.reader)
    (events c.loop.trace.items) (events c.go_on.new.trace.items) c.in-Err.stop c.fault_of.result c.loop.invariant c.in-Some.ensures c.in-Err.ensures c.fault_of.ensures
