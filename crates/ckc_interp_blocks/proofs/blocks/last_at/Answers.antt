use Rattle.ckc_interp_blocks.proofs.Found.{behind_at, last_before}
use Rattle.std.proofs.Common.{arith}
use Rattle.ckc_interp_blocks.proofs.blocks.last_at.Goals as goal

pub returns-then-low-eq0 : goal.returns-then-low-eq0
returns-then-low-eq0 c = behind_at c.args.a c.args.blocks.now c.loop-low.high (let h = c.loop-low-test.false in omega arith) c.loop-low.invariant.behind

pub returns-else-low-eq0 : goal.returns-else-low-eq0
returns-else-low-eq0 c =
    last_before c.args.a c.args.blocks.now c.loop-low.low c.loop-low.high (λ e. absurd (omega arith)) (omega arith) (omega arith) (omega arith)
    c.loop-low.invariant.before c.loop-low.invariant.behind
