use Rattle.std.proofs.Common.{◌≡◌, vec_len}
use Rattle.ckc_source.specs.States.{resumed, settled}
use Rattle.ckc_interp.specs.code.Views.{next_of_call, leaving_of}
use Rattle.ckc_interp.proofs.work.settle.Given as goal

abbrev pub invariant-fronts : goal.invariant-fronts
invariant-fronts l = resumed (leaving_of l.how) (next_of_call l.work.items) ≡ settled (next_of_call l.initial.work.items)

abbrev pub decreases-fronts : goal.decreases-fronts
decreases-fronts l = vec_len l.work
