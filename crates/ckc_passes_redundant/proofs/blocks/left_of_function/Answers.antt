use Rattle.std.proofs.Common.{◌≡◌, ◌∙◌, ◌+◌, List, [], take, refl, sym, subst, arith}
use Rattle.std.specs.List.{AllZip}
use Rattle.std.proofs.lemmas.List.{take_all}
use Rattle.std.proofs.lemmas.List.Elements.{all_zip_more}
use Rattle.ckc_tac.specs.declared.code.TacBlock.{TacBlock}
use Rattle.ckc_passes.specs.Passes.{BlockBecomes}
use Rattle.ckc_passes_redundant.specs.Redundant.{redundant_pass}
use Rattle.ckc_passes_redundant.proofs.blocks.left_of_function.Goals as goal

pub loop-block-init : goal.loop-block-init
loop-block-init c = subst (λ (l : List TacBlock). AllZip (BlockBecomes redundant_pass c.args.f.now.blocks) [] l) (sym c.new-blocks.ensures.items) tt

pub loop-block-preserved : goal.loop-block-preserved
loop-block-preserved c =
    let before = c.as_slice-block-items.result.now in
    let i = c.loop-block.block-index in
    subst (λ (l : List TacBlock). AllZip (BlockBecomes redundant_pass c.args.f.now.blocks) (take (i + 1) before) l) (sym c.in_ok-push.ensures.items)
    (all_zip_more (BlockBecomes redundant_pass c.args.f.now.blocks) before c.loop-block.blocks.items i c.block-item.result c.in_ok-left.left c.loop-block-test.true c.block-item.is
    c.loop-block.invariant (c.in_ok-left.ensures c.args.f.now.blocks))

pub returns : goal.returns
returns c =
    let f = c.args.f.now in
    let before = c.as_slice-block-items.result.now in
    let all : take c.loop-block.block-index before ≡ f.blocks = take_all c.loop-block.block-index before (omega arith) ∙ c.as_slice-block-items.ensures in
    record {
      params = refl;
      regs = refl;
      blocks =
          subst (λ (l : List TacBlock). AllZip (BlockBecomes redundant_pass f.blocks) f.blocks l) (sym c.from_vec.ensures)
          (subst (λ (l : List TacBlock). AllZip (BlockBecomes redundant_pass f.blocks) l c.loop-block.blocks.items) all c.loop-block.invariant);
    }
