use Rattle.std.proofs.Common.{arith}
use Rattle.std.specs.List.{flat_map}
use Rattle.ckc_source.specs.Blocks.{first_place}
use Rattle.ckc_build_elaborate.specs.Objects.{run_in}
use Rattle.ckc_build_elaborate.proofs.Laid.{apart_is, below_is}
use Rattle.ckc_build_elaborate.proofs.laws.objects_are_laid_out.Goals as goal

pub returns : goal.returns
returns c = record {
  laid_out = λ p a w b. record {
    apart = apart_is p.layout (flat_map run_in p.tree.items) p.statics a w;
    below = below_is p.layout first_place (flat_map run_in p.tree.items) p.statics (omega arith) a.within w;
    bytes = b;
  };
}
