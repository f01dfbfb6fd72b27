use Rattle.std.proofs.Common.{◌≡◌, ◌∷◌, ◌∙◌, [], sym, ap, length, List, refl}
use Rattle.ckc_parser_grammar.specs.code.Trees.{Step, attached, level, joined_at}
use Rattle.ckc_parser_grammar.proofs.Joining.{attach_push, attach_end, not_level}
use Rattle.ckc_parser_grammar.proofs.join.joined_at.Goals as goal

no_items : (xs : List Step) → length xs ≡ 0 → xs ≡ []
no_items [] e = refl
no_items (x ∷ xs) e = absurd (cc)

pub steps-init : goal.steps-init
steps-init c =
    ap (λ z. attached c.args.tightness c.args.chain.first z c.into_iter-step-iterator.result.rest.items) c.new-links.ensures
    ∙ ap (λ z. joined_at c.args.tightness c.args.chain.first z) (c.into_iter-step-iterator.ensures.into_iter_gives.0 ∙ c.into_vec-step-items.ensures)

pub steps-preserved-then-level-tightness : goal.steps-preserved-then-level-tightness
steps-preserved-then-level-tightness c =
    c.in_ok-operand.ensures c.next.new.self.rest.items
    ∙ ap (λ z. attached c.args.tightness c.steps.operand c.steps.links z) (sym c.in-Some.ensures.steps.0) ∙ c.steps.invariant

pub steps-preserved : goal.steps-preserved
steps-preserved c =
    ap (λ z. attached c.args.tightness c.steps.operand z c.next.new.self.rest.items) c.in_ok-push.ensures.ok
    ∙ attach_push c.args.tightness c.steps.operand c.steps.links c.in-Some.step c.next.new.self.rest.items
    (ap (λ z. z) (not_level (level c.in-Some.step.op) c.args.tightness (λ e. c.if-level-tightness.false (c.level.ensures ∙ e))))
    ∙ ap (λ z. attached c.args.tightness c.steps.operand c.steps.links z) (sym c.in-Some.ensures.steps.0) ∙ c.steps.invariant

pub returns : goal.returns
returns c =
    sym (attach_end c.args.tightness c.steps.operand c.steps.links)
    ∙ ap (λ z. attached c.args.tightness c.steps.operand c.steps.links z) (sym (no_items c.steps.step-iterator.rest.items (sym c.steps.step-iterator.rest.ok.0 ∙ c.in-None.ensures.steps.0)))
    ∙ c.steps.invariant
