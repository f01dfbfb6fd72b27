use Rattle.ckc_build_sizes.proofs.Programs.{weight_small}
use Rattle.ckc_build_sizes.proofs.laws.programs_are_small.Goals as goal

pub returns : goal.returns
returns c = weight_small
