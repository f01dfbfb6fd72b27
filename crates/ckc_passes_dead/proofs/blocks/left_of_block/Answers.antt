use Rattle.std.proofs.Common.{◌≡◌, ◌∙◌, List, [], reverse, sym, subst}
use Rattle.std.specs.Prelude.{All}
use Rattle.ckc_tac.specs.declared.code.TacOp.{TacOp}
use Rattle.ckc_tac.specs.WellFormed.{IsOpOver}
use Rattle.ckc_passes.specs.Passes.{Becomes}
use Rattle.ckc_passes_dead.specs.Dead.{dead_pass}
use Rattle.ckc_passes_dead.proofs.blocks.left_of_block.Goals as goal

pub returns : goal.returns
returns c = λ f functions over exact.
    let block = c.args.block.now in
    let last_first = c.in_ok-left.left.items in
    let left = c.in_ok-left.ensures f functions block.end (subst (All (IsOpOver functions f.regs)) (sym c.as_slice.ensures) over) exact in
    let made : c.from_vec.result ≡ reverse last_first = c.from_vec.ensures ∙ c.reverse.ensures.items in
    subst (λ (l : List TacOp). Becomes dead_pass f.blocks [] block.ops block.end l block.end) (sym made)
    (subst (λ (l : List TacOp). Becomes dead_pass f.blocks [] l block.end (reverse last_first) block.end) c.as_slice.ensures left)
