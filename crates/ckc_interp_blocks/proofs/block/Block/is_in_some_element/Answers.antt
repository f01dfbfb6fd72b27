use Rattle.std.proofs.Common.{sym, arith}
use Rattle.ckc_interp_blocks.specs.Held.{view}
use Rattle.ckc_interp_blocks.proofs.Elements.{none_of_size, none_before}
use Rattle.ckc_interp_blocks.proofs.block.Block.is_in_some_element.Goals as goal

pub returns-then-size-eq0 : goal.returns-then-size-eq0
returns-then-size-eq0 c =
    sym (none_of_size (view c.args.self.now) c.args.offset c.args.size c.args.s.number c.args.s.low c.args.s.high (omega arith))

pub returns-then-from-first : goal.returns-then-from-first
returns-then-from-first c =
    sym (none_before (view c.args.self.now) c.args.offset c.args.size c.args.s.number c.args.s.low c.args.s.high (omega arith))
