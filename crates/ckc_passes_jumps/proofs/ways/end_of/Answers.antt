use Rattle.std.proofs.Common.{◌∙◌, ℕ, List, Option, None, get_or, sym, subst}
use Rattle.ckc_passes_jumps.specs.code.Ways.{IsAnswer, IsWalked}
use Rattle.ckc_passes_jumps.proofs.Walking.{right_more}
use Rattle.ckc_passes_jumps.proofs.ways.end_of.Goals as goal

pub returns-in-Some-clause-answer : goal.returns-in-Some-clause-answer
returns-in-Some-clause-answer c =
    let b = c.args.b in
    let w = c.in-Some.w in
    subst (IsAnswer c.args.blocks.now b) (sym c.end_at.ensures)
    (subst (λ (l : List (Option ℕ)). IsAnswer c.args.blocks.now b (get_or l w None)) (sym c.as_slice.ensures.value)
    (c.requires.right b w (sym c.walk_of.ensures ∙ c.in-Some.is)).answer)

pub returns-clause-right : goal.returns-clause-right
returns-clause-right c =
    right_more c.args.blocks.now c.args.b c.walk-end.new.walks.items c.args.ways.now.ends.items c.push.new.self.items c.walk-end.result c.in_ok-push.ensures.items
    (subst (λ (l : List (Option ℕ)). IsWalked c.args.blocks.now c.args.b c.walk-end.new.walks.items l c.walk-end.result) c.as_slice-2.ensures.value c.walk-end.ensures)
