use Rattle.std.proofs.Common.{◌∷◌, ◌∙◌, sym, ap}
use Rattle.ckc_parser_grammar.specs.code.Trees.{Step, attached, level}
use Rattle.ckc_parser_grammar.proofs.Joining.{attach_last, is_level, same_step}
use Rattle.ckc_parser_grammar.proofs.join.join_last.Goals as goal

pub returns-in_ok-push-in-Some : goal.returns-in_ok-push-in-Some
returns-in_ok-push-in-Some c = λ ss.
    let last = c.in-Some.last in
    let whole : Step = record { op = last.op; pos = last.pos; operand = c.in_ok-operand-in-Some.operand } in
    ap (λ z. attached c.args.tightness c.args.first z ss) c.in_ok-push-in-Some.ensures.ok
    ∙ attach_last c.args.tightness c.args.first c.pop.new.self last whole c.args.step ss (is_level (level c.args.step.op) c.args.tightness c.requires)
    (same_step last.op last.pos c.in_ok-operand-in-Some.operand _ c.in_ok-operand-in-Some.ensures)
    ∙ ap (λ z. attached c.args.tightness c.args.first z (c.args.step ∷ ss)) (sym c.in-Some.ensures)
