use Rattle.std.proofs.Common.{ap, sym, cond, Err, arith}
use Rattle.ckc_source.specs.declared.outcome.Halt.TheVariants.{Stuck}
use Rattle.ckc_source.specs.Eval.{ranged}
use Rattle.ckc_interp_blocks.specs.Views.{shapes_of}
use Rattle.ckc_interp_blocks.proofs.Truth.{not_past_low, not_past_high}
use Rattle.ckc_interp_blocks.proofs.blocks.Blocks.read_within.Goals as goal

pub returns-then-low-gt-LAST_WORD : goal.returns-then-low-gt-LAST_WORD
returns-then-low-gt-LAST_WORD c =
    let below = c.args.self.now.below in
    sym (ap (λ b. cond b (ranged c.args.n c.args.low c.args.high) (Err Stuck))
    (not_past_low (shapes_of c.args.self.now) c.args.to.now c.args.n c.args.low c.args.high c.args.self.now.blocks.items c.args.self.now.next c.args.self.now.apart (omega arith)))

pub returns-then-high-gt-LAST_WORD : goal.returns-then-high-gt-LAST_WORD
returns-then-high-gt-LAST_WORD c =
    let below = c.args.self.now.below in
    sym (ap (λ b. cond b (ranged c.args.n c.args.low c.args.high) (Err Stuck))
    (not_past_high (shapes_of c.args.self.now) c.args.to.now c.args.n c.args.low c.args.high c.args.self.now.blocks.items c.args.self.now.next c.args.self.now.apart (omega arith)))
