use Rattle.std.proofs.Common.{sym, ◌∙◌, ap, Some, arith}
use Rattle.ckc_interp_blocks.proofs.Places.{apart_true}
use Rattle.ckc_interp_blocks.proofs.Found.{held_has, held_loads, loads_not}
use Rattle.ckc_interp_blocks.specs.Views.{blocks_of}
use Rattle.ckc_interp_blocks.proofs.blocks.Blocks.load.Goals as goal

pub load-requires : goal.load-requires
load-requires c =
    let h = c.in-Some.ensures in
    held_has c.args.width c.args.a c.args.self.now.blocks.items c.args.self.now.next c.args.self.now.apart c.in-Some.i h.1
    c.index.result.now (let k = h.0 in omega arith) c.index.ensures

pub returns-in-Some : goal.returns-in-Some
returns-in-Some c =
    let h = c.in-Some.ensures in
    ap Some c.load.ensures
    ∙ sym (held_loads c.args.width c.args.a c.args.self.now.blocks.items c.args.self.now.next c.args.self.now.apart c.in-Some.i h.1
    c.index.result.now (let k = h.0 in omega arith) c.index.ensures)

pub returns-in-None : goal.returns-in-None
returns-in-None c =
    sym (loads_not c.args.width c.args.a 0 (blocks_of c.args.self.now) c.args.self.now.next (apart_true 0 (blocks_of c.args.self.now) c.args.self.now.next c.args.self.now.apart)
    c.in-None.ensures)
