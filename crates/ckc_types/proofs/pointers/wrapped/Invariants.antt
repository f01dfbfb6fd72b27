use Rattle.std.proofs.Common.{◌≡◌, length}
use Rattle.ckc_types.specs.Pointers.{wrapped}
use Rattle.ckc_types.proofs.pointers.wrapped.Given as goal

abbrev pub invariant-layers : goal.invariant-layers
invariant-layers l = wrapped l.kinds l.whole ≡ wrapped l.fn.kinds l.fn.base

abbrev pub decreases-layers : goal.decreases-layers
decreases-layers l = length l.kinds
