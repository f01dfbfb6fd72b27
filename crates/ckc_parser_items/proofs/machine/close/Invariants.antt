use Rattle.std.proofs.Common.{◌≡◌, take}
use Rattle.ckc_parser_grammar.specs.code.Trace.{rule_of}
use Rattle.ckc_parser_values.specs.code.Programs.{run, program}
use Rattle.ckc_parser_items.proofs.machine.close.Given as goal

-- the actions so far are done
abbrev pub invariant-loop-k : goal.invariant-loop-k
invariant-loop-k l = l.held ≡ run (take l.k (program (rule_of l.rule))) l.initial.held
