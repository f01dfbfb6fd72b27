use Rattle.std.proofs.Common.{sym, ap, ◌∙◌}
use Rattle.ckc_syntax.specs.declared.tree.Item.TheVariants as item
use Rattle.ckc_plain_barred.specs.Integers.{known_in}
use Rattle.ckc_plain_bodies.specs.Statements.{body_plain, item_plain}
use Rattle.ckc_plain.proofs.top.plain_item.Goals as goal

pub returns-in_ok-made-clause-made : goal.returns-in_ok-made-clause-made
returns-in_ok-made-clause-made c =
    let known = c.args.known.now in
    ap (λ b. item.Function c.in-Function.head b)
    (c.in_ok-made.ensures.made ∙ ap (λ h. body_plain (known_in known h c.get-in-Function.result.now) c.get-in-Function.result.now) c.get.ensures
    ∙ ap (λ b. body_plain (known_in known c.in-Function.head b) b) c.get-in-Function.ensures)
    ∙ ap (λ i. item_plain known i) (sym c.in-Function.is)
