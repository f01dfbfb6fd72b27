use Rattle.std.proofs.Common.{◌≡◌, length}
use Rattle.ckc_syntax.specs.Pointers.{wrapped}
use Rattle.ckc_syntax.proofs.pointers.wrapped.Given as goal

abbrev pub invariant-pointers : goal.invariant-pointers
invariant-pointers g l = wrapped l.pointers l.whole ≡ wrapped l.fn.pointers l.fn.base

abbrev pub decreases-pointers : goal.decreases-pointers
decreases-pointers g l = length l.pointers
