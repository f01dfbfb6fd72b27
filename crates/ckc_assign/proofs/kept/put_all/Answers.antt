use Rattle.std.proofs.Common.{◌≡◌, ◌∙◌, ◌+◌, List, Bool, [], ◌∷◌, ◌++◌, take, reverse, get_or, sym, ap, subst}
use Rattle.std.proofs.lemmas.List.{take_more}
use Rattle.ckc_tac.specs.declared.code.TacBlock.{TacBlock}
use Rattle.ckc_tac.specs.declared.code.TacOp.{TacOp}
use Rattle.ckc_assign.specs.code.Kept.{AllKept, AreKept}
use Rattle.ckc_assign.proofs.Calls.{all_more}
use Rattle.ckc_assign.proofs.kept.put_all.Goals as goal

pub loop-block-preserved : goal.loop-block-preserved
loop-block-preserved c =
    let f = c.args.f.now in
    let blocks = c.as_slice-block-items.result.now in
    let i = c.loop-block.block-index in
    let block = c.block-item.result in
    let rows = reverse c.in_ok-rows.rows.items in
    let is : block ≡ get_or blocks i block = c.block-item.is in
    let more : take (i + 1) blocks ≡ take i blocks ++ block ∷ [] =
    take_more blocks i block c.loop-block-test.true ∙ ap (λ (b : TacBlock). take i blocks ++ b ∷ []) (sym is) in
    let exact = c.before_end.ensures.exact f c.requires.live (c.loop-block.auto.row ∙ c.requires.row) in
    let kept = subst (λ (l : List TacOp). AreKept f block.end l rows) c.as_slice.ensures (c.in_ok-rows.ensures f block.end exact) in
    subst (λ (bs : List TacBlock). AllKept f bs c.put_reversed.new.kept.items) (sym more)
    (subst (λ (l : List (List Bool)). AllKept f (take i blocks ++ block ∷ []) l) (sym c.in_ok-put_reversed.ensures)
    (all_more f (take i blocks) block c.loop-block.kept.items rows c.loop-block.invariant kept))
