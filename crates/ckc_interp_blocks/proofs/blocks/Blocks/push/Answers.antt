use Rattle.ckc_interp_blocks.proofs.Found.{pushed_apart}
use Rattle.ckc_interp_blocks.proofs.blocks.Blocks.push.Goals as goal

pub invariant_of-self-2-clause-apart : goal.invariant_of-self-2-clause-apart
invariant_of-self-2-clause-apart c =
    pushed_apart c.args.self.now.blocks.items c.push.new.self.items c.args.block c.args.self.now.next c.args.next c.args.self.now.apart
    c.in_ok-push.ensures.items c.requires.base c.requires.end
