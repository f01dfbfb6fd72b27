use Rattle.std.proofs.Common.{◌≡◌, ◌+◌, List, [], take, refl, sym, subst, arith}
use Rattle.std.proofs.lemmas.List.{take_all}
use Rattle.ckc_tac.specs.declared.code.TacBlock.{TacBlock}
use Rattle.ckc_passes_known.specs.Known.{ZipFrom, BlockAfter}
use Rattle.ckc_passes_known.proofs.Left.{zip_more}
use Rattle.ckc_passes_known.proofs.blocks.left_of_function.Goals as goal

pub loop-b-init : goal.loop-b-init
loop-b-init c = subst (λ (l : List TacBlock). ZipFrom (BlockAfter c.as_slice-blocks.result.now) 0 [] l) (sym c.new-left.ensures.items) tt

pub loop-b-preserved : goal.loop-b-preserved
loop-b-preserved c =
    let blocks = c.as_slice-blocks.result.now in
    subst (λ (l : List TacBlock). ZipFrom (BlockAfter blocks) 0 (take (c.loop-b.b + 1) blocks) l) (sym c.in_ok-push.ensures.items)
    (zip_more (BlockAfter blocks) blocks c.loop-b.left.items c.loop-b.b c.index-blocks-b.result c.in_ok-one.one c.loop-b-test.true c.index-blocks-b.is
    c.in_ok-one.ensures c.loop-b.invariant)

pub returns : goal.returns
returns c =
    let f = c.args.f.now in
    let blocks = c.as_slice-blocks.result.now in
    let all : take c.loop-b.b blocks ≡ blocks = take_all c.loop-b.b blocks (omega arith) in
    let zip = subst (λ (l : List TacBlock). ZipFrom (BlockAfter blocks) 0 l c.loop-b.left.items) all c.loop-b.invariant in
    record {
      params = refl;
      regs = refl;
      blocks =
          subst (λ (l : List TacBlock). ZipFrom (BlockAfter f.blocks) 0 f.blocks l) (sym c.from_vec.ensures)
          (subst (λ (l : List TacBlock). ZipFrom (BlockAfter l) 0 l c.loop-b.left.items) c.as_slice-blocks.ensures zip);
    }
