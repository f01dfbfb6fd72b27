use Rattle.std.proofs.Common.{map}
use Rattle.ckc_syntax.specs.Spelled.{spelled}
use Rattle.ckc_parser_grammar.specs.code.Signs.{signs}
use Rattle.ckc_parser_grammar.specs.code.Marked.{ahead}
use Rattle.ckc_parser_grammar.specs.code.Trace.{events}
use Rattle.ckc_parser_trace.specs.code.Runs.{symbols_on, Runs}
use Rattle.ckc_parser_trace.proofs.machine.recognise.Given as goal

abbrev pub invariant-loop : goal.invariant-loop
invariant-loop l = Runs (signs (map spelled l.tokens)) (symbols_on l.stack.items) (ahead l.reader) (events l.trace.items)
