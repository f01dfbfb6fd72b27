use Rattle.std.proofs.Common.{sym, ◌∙◌}
use Rattle.ckc_interp_blocks.specs.Views.{shapes_of}
use Rattle.ckc_interp_blocks.proofs.Truth.{true_at, not_behind}
use Rattle.ckc_interp_blocks.proofs.blocks.Blocks.is_true.Goals as goal

pub returns-in-Some : goal.returns-in-Some
returns-in-Some c =
    c.is_in.ensures
    ∙ sym (true_at (shapes_of c.args.self.now) c.args.to.now c.args.s.number c.args.s.low c.args.s.high c.args.self.now.blocks.items c.args.self.now.next c.args.self.now.apart
    c.as_slice.result.now c.as_slice.ensures.value c.in-Some.i c.index.result.now c.in-Some.ensures c.index.ensures)

pub returns-in-None : goal.returns-in-None
returns-in-None c =
    sym (not_behind (shapes_of c.args.self.now) c.args.to.now c.args.s.number c.args.s.low c.args.s.high c.args.self.now.blocks.items c.args.self.now.next c.args.self.now.apart
    c.as_slice.result.now c.as_slice.ensures.value c.in-None.ensures)
