use Rattle.ckc_blame_sound.proofs.Declared.{own_readable, bounded_after, widened_after}
use Rattle.ckc_blame_sound.proofs.contained_laws.declarations_keep_bounds.Goals as goal

pub returns : goal.returns
returns c = λ s before after v seen at k fresh l i form reached ends are known placed stay is others begun unnamed bounded widened.
    let own = own_readable s before after v at ends are known placed stay k l is others i fresh begun in (
      bounded_after s before after v at ends are known placed stay k l is others seen reached form unnamed bounded widened own,
      widened_after s before after v at ends are known placed stay k l is others seen reached form unnamed bounded widened own,
    )
