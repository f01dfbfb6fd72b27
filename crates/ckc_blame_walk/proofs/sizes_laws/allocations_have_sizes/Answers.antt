use Rattle.ckc_blame_walk.proofs.Allocated.{texts_allocate_sizes}
use Rattle.ckc_blame_walk.proofs.sizes_laws.allocations_have_sizes.Goals as goal

pub returns : goal.returns
returns c = texts_allocate_sizes
