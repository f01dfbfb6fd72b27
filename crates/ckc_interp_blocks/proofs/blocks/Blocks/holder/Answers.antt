use Rattle.std.proofs.Common.{sym, ◌∙◌, arith}
use Rattle.ckc_interp_blocks.proofs.Found.{holder_is, not_held, no_holder}
use Rattle.ckc_interp_blocks.proofs.blocks.Blocks.holder.Goals as goal

pub returns-then-has : goal.returns-then-has
returns-then-has c =
    holder_is c.args.width c.args.a c.args.self.now.blocks.items c.as_slice.result.now _ c.in-Some.i c.index.result.now
    c.as_slice.ensures.value (omega arith) c.in-Some.ensures c.index.ensures (sym c.is_aligned.ensures ∙ c.if-not-is_aligned.false) (sym c.has.ensures ∙ c.if-has.true)

pub returns-else-has : goal.returns-else-has
returns-else-has c =
    not_held c.args.width c.args.a c.args.self.now.blocks.items c.as_slice.result.now c.args.self.now.next c.as_slice.ensures.value c.args.self.now.apart
    c.in-Some.i c.index.result.now c.in-Some.ensures c.index.ensures (sym c.has.ensures ∙ c.if-has.false)

pub returns-in-None : goal.returns-in-None
returns-in-None c =
    no_holder c.args.width c.args.a c.args.self.now.blocks.items c.as_slice.result.now c.args.self.now.next c.as_slice.ensures.value c.args.self.now.apart
    c.in-None.ensures
