use Rattle.std.proofs.Common.{◌≡◌, ◌++◌, take, reverse}
use Rattle.ckc_parser_grammar.specs.code.Grammar.{right}
use Rattle.ckc_parser_grammar.specs.code.Trace.{rule_of}
use Rattle.ckc_parser_trace.specs.code.Runs.{symbols_on}
use Rattle.ckc_parser_trace.proofs.machine.open.Given as goal

-- the last symbols so far stand on the stack
abbrev pub invariant-loop-k : goal.invariant-loop-k
invariant-loop-k l = symbols_on l.stack.items ≡ reverse (take l.k (reverse (right (rule_of l.rule)))) ++ symbols_on l.initial.stack.items
