use Rattle.std.proofs.Common.{Option, length, refl, subst, sym, ◌∙◌, ℕ}
use Rattle.std.proofs.lemmas.Option.{slice_get_read}
use Rattle.ckc_passes_jumps.specs.code.Ways.{IsWalked}
use Rattle.ckc_passes_jumps.proofs.Walking.{walk_past, walk_met, walk_on, walk_arrived}
use Rattle.ckc_passes_jumps.proofs.ways.walk.Goals as goal

pub returns-in-Some : goal.returns-in-Some
returns-in-Some c =
    subst (λ (o : Option ℕ). IsWalked c.args.blocks.now c.args.b c.steps.walks.items c.args.ends.now o) (sym c.end_at.ensures)
    (walk_met c.args.blocks.now c.args.b c.args.ends.now c.steps.at c.steps.walks.items c.steps.invariant c.in-Some.w (sym c.walk_of.ensures ∙ c.in-Some.is))

pub steps-preserved : goal.steps-preserved
steps-preserved c =
    let blocks = c.args.blocks.now in
    let there = slice_get_read blocks (length blocks) c.steps.at c.index-blocks-at.result refl c.steps-test.true c.index-blocks-at.is in
    walk_on blocks c.args.b c.args.ends.now c.steps.at c.steps.walks.items c.steps.invariant c.index-blocks-at.result there
    c.in-Some-next.to (sym c.next.ensures ∙ c.in-Some-next.is) _ refl

pub returns-in-None : goal.returns-in-None
returns-in-None c =
    let blocks = c.args.blocks.now in
    let there = slice_get_read blocks (length blocks) c.steps.at c.index-blocks-at.result refl c.steps-test.true c.index-blocks-at.is in
    walk_arrived blocks c.args.b c.args.ends.now c.steps.at c.steps.walks.items c.steps.invariant c.index-blocks-at.result there
    (sym c.next.ensures ∙ c.in-None.is) _ refl

pub returns : goal.returns
returns c =
    walk_past c.args.blocks.now c.args.b c.args.ends.now c.steps.at c.steps.walks.items c.steps.invariant c.steps-test.false
