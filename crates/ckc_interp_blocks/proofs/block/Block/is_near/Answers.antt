use Rattle.std.proofs.Common.{sym, ◌∙◌, ◌-◌, arith}
use Rattle.ckc_interp_blocks.specs.Held.{view}
use Rattle.ckc_interp_blocks.proofs.Elements.{hit, begins, miss_both, last_or_none}
use Rattle.ckc_interp_blocks.proofs.block.Block.is_near.Goals as goal

pub is_at_element-requires : goal.is_at_element-requires
is_at_element-requires c =
    begins (view c.args.self.now) c.args.offset c.args.size c.args.s.number c.args.s.low c.args.s.high
    (omega arith) (omega arith) (omega arith) c.args.last c.requires.last c.args.last (omega arith)

pub returns-then-is_at_element : goal.returns-then-is_at_element
returns-then-is_at_element c =
    sym (hit (view c.args.self.now) c.args.offset c.args.size c.args.s.number c.args.s.low c.args.s.high c.args.last
    (sym c.is_at_element.ensures ∙ c.if-is_at_element.true))

pub returns-then-last-eq0 : goal.returns-then-last-eq0
returns-then-last-eq0 c =
    sym (miss_both (view c.args.self.now) c.args.offset c.args.size c.args.s.number c.args.s.low c.args.s.high
    (omega arith) (omega arith) (omega arith) c.args.last c.requires.last (sym c.is_at_element.ensures ∙ c.if-is_at_element.false) (λ h. absurd (omega arith)))

pub is_at_element-requires-2 : goal.is_at_element-requires-2
is_at_element-requires-2 c =
    begins (view c.args.self.now) c.args.offset c.args.size c.args.s.number c.args.s.low c.args.s.high
    (omega arith) (omega arith) (omega arith) c.args.last c.requires.last (c.args.last - 1) (omega arith)

pub returns : goal.returns
returns c =
    last_or_none (view c.args.self.now) c.args.offset c.args.size c.args.s.number c.args.s.low c.args.s.high
    (omega arith) (omega arith) (omega arith) c.args.last c.requires.last c.is_at_element-2.result (sym c.is_at_element.ensures ∙ c.if-is_at_element.false) c.is_at_element-2.ensures
