use Rattle.std.proofs.Common.{List, [], sym, subst, arith}
use Rattle.ckc_tac.specs.declared.code.TacOp.{TacOp}
use Rattle.ckc_passes.specs.Passes.{Becomes}
use Rattle.ckc_passes_redundant.specs.Redundant.{redundant_pass}
use Rattle.ckc_passes_redundant.specs.code.Blocks.{IsUnderway}
use Rattle.ckc_passes_redundant.proofs.Left.{underway_first, underway_next, underway_last}
use Rattle.ckc_passes_redundant.proofs.blocks.left_of_block.Goals as goal

pub loop-place-init : goal.loop-place-init
loop-place-init c =
    let ops = c.as_slice-ops.result.now in
    subst (λ (l : List TacOp). IsUnderway ops c.args.block.now.end 0 c.new-table.result l) (sym c.new-left.ensures.items)
    (underway_first ops c.args.block.now.end c.new-table.result c.new-table.ensures)

pub loop-place-preserved : goal.loop-place-preserved
loop-place-preserved c =
    underway_next c.as_slice-ops.result.now c.args.block.now.end c.loop-place.place c.index-ops-place.result c.loop-place.table c.pass.new.table c.loop-place.left.items c.pass.new.left.items
    (omega arith) c.index-ops-place.is c.in_ok-pass.ensures c.loop-place.invariant

pub returns : goal.returns
returns c = λ blocks.
    let ops = c.as_slice-ops.result.now in
    let end = c.args.block.now.end in
    let left = underway_last ops end c.loop-place.place c.loop-place.table c.loop-place.left.items (omega arith) c.loop-place.invariant blocks in
    subst (λ (l : List TacOp). Becomes redundant_pass blocks [] c.args.block.now.ops end l end) (sym c.from_vec.ensures)
    (subst (λ (l : List TacOp). Becomes redundant_pass blocks [] l end c.loop-place.left.items end) c.as_slice-ops.ensures left)
