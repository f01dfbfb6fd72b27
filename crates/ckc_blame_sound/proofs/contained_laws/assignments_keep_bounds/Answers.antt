use Rattle.ckc_blame_sound.proofs.Faults.{good}
use Rattle.ckc_blame_sound.proofs.ContainedLocals.{bounded_after, widened_after}
use Rattle.ckc_blame_sound.proofs.contained_laws.assignments_keep_bounds.Goals as goal

pub returns : goal.returns
returns c = λ s before after v seen at there ps result reached ends are known placed stay assigned bounded widened stored.
    let g = good s.frame result seen ps at there stored in (
      bounded_after s before after v seen at there ps result reached ends are known placed stay assigned bounded widened g,
      widened_after s before after v seen at there ps result reached ends are known placed stay assigned bounded widened g,
    )
