use Rattle.std.proofs.Common.{sym}
use Rattle.ckc_interp_blocks.proofs.Found.{held_lies}
use Rattle.ckc_interp_blocks.proofs.blocks.Blocks.lies_in.Goals as goal

pub returns-in-Some : goal.returns-in-Some
returns-in-Some c =
    let h = c.in-Some.ensures in
    sym (held_lies c.args.width c.args.a c.args.self.now.blocks.items c.args.self.now.next c.args.self.now.apart _ h.1)
