use Rattle.std.proofs.Common.{subst, sym}
use Rattle.ckc_passes_jumps.specs.Jumps.{IsPlace}
use Rattle.ckc_passes_jumps.proofs.Walking.{short_within}
use Rattle.ckc_passes_jumps.proofs.blocks.left_of_target.Goals as goal

pub returns-clause-exact : goal.returns-clause-exact
returns-clause-exact c = λ h.
    let blocks = c.args.blocks.now in
    let b = c.in_ok-b.b in
    let short = c.in_ok-b.ensures.short in
    (b, short, subst (IsPlace blocks b) (sym c.place.ensures) (c.requires.placed.right b (short_within blocks c.args.to b h short)))
