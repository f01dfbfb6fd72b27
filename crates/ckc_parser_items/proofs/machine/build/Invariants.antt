use Rattle.std.proofs.Common.{map, length}
use Rattle.ckc_syntax.specs.Spelled.{spelled}
use Rattle.ckc_parser_grammar.specs.code.Trace.{events}
use Rattle.ckc_parser_items.proofs.Playing.{Played}
use Rattle.ckc_parser_items.proofs.machine.build.Given as goal

abbrev pub invariant-events : goal.invariant-events
invariant-events l = Played (map spelled l.fn.tokens) (events l.fn.trace) (events l.rest) l.left l.held

abbrev pub decreases-events : goal.decreases-events
decreases-events l = length l.rest
