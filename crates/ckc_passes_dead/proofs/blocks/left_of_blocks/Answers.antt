use Rattle.std.proofs.Common.{◌≡◌, ◌∙◌, ◌+◌, List, [], length, take, sym, subst, arith}
use Rattle.std.specs.Prelude.{All}
use Rattle.std.specs.List.{AllZip}
use Rattle.std.proofs.lemmas.List.{take_all}
use Rattle.std.proofs.lemmas.List.Elements.{all_zip_more, All-get_or}
use Rattle.ckc_tac.specs.declared.code.TacBlock.{TacBlock}
use Rattle.ckc_tac.specs.WellFormed.{IsBlockOver}
use Rattle.ckc_passes.specs.Passes.{BlockBecomes}
use Rattle.ckc_passes_dead.specs.Dead.{dead_pass}
use Rattle.ckc_passes_dead.proofs.blocks.left_of_blocks.Goals as goal

pub loop-block-init : goal.loop-block-init
loop-block-init c = λ functions over.
    subst (λ (l : List TacBlock). AllZip (BlockBecomes dead_pass c.args.f.now.blocks) [] l) (sym c.new-blocks.ensures.items) tt

pub loop-block-preserved : goal.loop-block-preserved
loop-block-preserved c = λ functions over.
    let f = c.args.f.now in
    let before = c.as_slice-block-items.result.now in
    let i = c.loop-block.block-index in
    let block = c.block-item.result in
    let test = IsBlockOver functions (length f.blocks) f.regs in
    let here = All-get_or test before i block c.loop-block-test.true (subst (All test) (sym c.as_slice-block-items.ensures) over.2) in
    let whole = subst test (sym c.block-item.is) here in
    let exact = c.before_end.ensures.exact f c.requires.live (c.loop-block.auto.row ∙ c.requires.row) in
    subst (λ (l : List TacBlock). AllZip (BlockBecomes dead_pass f.blocks) (take (i + 1) before) l) (sym c.in_ok-push.ensures.items)
    (all_zip_more (BlockBecomes dead_pass f.blocks) before c.loop-block.blocks.items i block c.in_ok-left.left c.loop-block-test.true c.block-item.is
    (c.loop-block.invariant functions over) (c.in_ok-left.ensures f functions whole.0 exact))

pub returns : goal.returns
returns c = λ functions over.
    let before = c.as_slice-block-items.result.now in
    let all : take c.loop-block.block-index before ≡ c.args.f.now.blocks = take_all c.loop-block.block-index before (omega arith) ∙ c.as_slice-block-items.ensures in
    subst (λ (l : List TacBlock). AllZip (BlockBecomes dead_pass c.args.f.now.blocks) l c.loop-block.blocks.items) all (c.loop-block.invariant functions over)
