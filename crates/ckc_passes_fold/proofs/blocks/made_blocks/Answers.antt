use Rattle.std.proofs.Common.{◌≡◌, ◌∙◌, ◌+◌, List, [], ◌∷◌, ◌++◌, map, take, sym, ap, Option, None, ℕ}
use Rattle.std.proofs.lemmas.List.{take_more, map-append}
use Rattle.ckc_tac.specs.declared.code.TacBlock.{TacBlock}
use Rattle.ckc_passes.specs.code.Forward.{emptied, filled}
use Rattle.ckc_passes_fold.specs.code.Tables.{block_with, entry}
use Rattle.ckc_passes_fold.proofs.Numbering.{kept_empty}
use Rattle.ckc_passes_fold.proofs.blocks.made_blocks.Goals as goal

pub loop-block-preserved : goal.loop-block-preserved
loop-block-preserved c =
    let known = c.args.known.now in
    let block = c.block-item.result in
    let blocks = c.args.blocks.now in
    let i = c.loop-block.block-index in
    let before = c.loop-block.invariant in
    let more : take (i + 1) blocks ≡ take i blocks ++ block ∷ [] =
    take_more blocks i block c.loop-block-test.true ∙ ap (λ (b : TacBlock). take i blocks ++ b ∷ []) (sym c.block-item.is) in
    record {
      known = c.in_ok-one.ensures.known
          ∙ ap (λ (l : List (Option ℕ)). emptied None block.ops (filled entry 0 block.ops l)) before.known
          ∙ kept_empty known block.ops c.requires.empty;
      made = c.in_ok-push.ensures.items
          ∙ ap (λ (l : List TacBlock). l ++ c.in_ok-one.one ∷ []) before.made
          ∙ ap (λ (b : TacBlock). map (block_with known) (take i blocks) ++ b ∷ []) (c.in_ok-one.ensures.made ∙ ap (λ (l : List (Option ℕ)). block_with l block) before.known)
          ∙ sym (map-append (block_with known) (take i blocks) (block ∷ []))
          ∙ ap (map (block_with known)) (sym more);
    }
