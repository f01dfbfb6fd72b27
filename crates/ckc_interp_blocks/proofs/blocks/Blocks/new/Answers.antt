use Rattle.std.proofs.Common.{map, arith}
use Rattle.ckc_interp_blocks.specs.Held.{view}
use Rattle.ckc_interp_blocks.proofs.Found.{made_apart}
use Rattle.ckc_interp_blocks.proofs.blocks.Blocks.new.Goals as goal

pub invariant_of-result : goal.invariant_of-result
invariant_of-result c =
    let made = made_apart c.args.objects.now (map view c.loop-o.blocks.items) c.loop-o.o-index c.loop-o.next _ (omega arith)
    c.loop-o.invariant.all c.loop-o.invariant.place c.requires.apart in
    record {
      apart = made.0;
      below = let e = made.1 in let h = c.requires.below in omega arith;
    }
