use Rattle.std.proofs.Common.{List, [], sym, subst, arith}
use Rattle.ckc_tac.specs.declared.code.TacOp.{TacOp}
use Rattle.ckc_passes.specs.Passes.{Becomes}
use Rattle.ckc_passes_known.specs.Known.{known_pass}
use Rattle.ckc_passes_known.specs.code.Left.{IsTaken}
use Rattle.ckc_passes_known.proofs.Left.{taken_first, taken_next, taken_last}
use Rattle.ckc_passes_known.proofs.blocks.left_of_block.Goals as goal

pub loop-i-init : goal.loop-i-init
loop-i-init c =
    let ops = c.as_slice-ops.result.now in
    subst (λ (l : List TacOp). IsTaken c.args.blocks.now c.args.b ops 0 l) (sym c.new-left.ensures.items) (taken_first c.args.blocks.now c.args.b ops)

pub loop-i-preserved : goal.loop-i-preserved
loop-i-preserved c =
    taken_next c.args.blocks.now c.args.b c.as_slice-ops.result.now c.loop-i.i c.index-ops-i.result c.loop-i.left.items c.pass.new.left.items
    c.loop-i-test.true c.index-ops-i.is c.in_ok-pass.ensures c.loop-i.invariant

pub returns : goal.returns
returns c =
    let ops = c.as_slice-ops.result.now in
    let blocks = c.args.blocks.now in
    let end = c.args.block.now.end in
    let low = c.in_ok-end.end in
    let left = taken_last blocks c.args.b ops c.loop-i.i c.loop-i.left.items end low (omega arith) c.loop-i.invariant c.in_ok-end.ensures in
    subst (λ (l : List TacOp). Becomes (known_pass c.args.b) blocks [] c.args.block.now.ops end l low) (sym c.from_vec.ensures)
    (subst (λ (l : List TacOp). Becomes (known_pass c.args.b) blocks [] l end c.loop-i.left.items low) c.as_slice-ops.ensures left)
