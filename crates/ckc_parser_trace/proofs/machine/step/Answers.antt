use Rattle.std.proofs.Common.{[], ◌∷◌, ◌++◌, sym, ap, ◌∙◌}
use Rattle.ckc_parser_grammar.specs.code.Marked.{ahead}
use Rattle.ckc_parser_trace.specs.code.Runs.{symbols_on}
use Rattle.ckc_parser_trace.specs.code.Turns.{symbol_of, turn, turn_of}
use Rattle.ckc_parser_trace.proofs.Bytes.{reads}
use Rattle.ckc_parser_trace.proofs.machine.step.Goals as goal

pub returns-then-turn-2 : goal.returns-then-turn-2
returns-then-turn-2 c =
    let h = c.in_ok-take_token.ensures in
    reads (symbol_of c.args.symbol) (symbols_on c.args.stack.now.items) h.0 (ahead c.args.reader.now) (ahead c.take_token.new.reader) c.args.trace.now.items c.push.new.self.items
    (ap turn_of (sym c.if-turn-2.true) ∙ c.in-Some.ensures ∙ ap (λ k. turn (symbol_of c.args.symbol) k) c.kind.ensures) h.1
    (c.in_ok-push.ensures.items ∙ ap (λ z. c.args.trace.now.items ++ z ∷ []) c.if-turn-2.true)
