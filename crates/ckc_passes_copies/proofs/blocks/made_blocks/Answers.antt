use Rattle.std.proofs.Common.{◌≡◌, ◌∙◌, ◌+◌, List, [], ◌∷◌, ◌++◌, map, take, sym, ap, ℕ}
use Rattle.std.proofs.lemmas.List.{take_more, map-append}
use Rattle.ckc_tac.specs.declared.code.TacBlock.{TacBlock}
use Rattle.ckc_passes_copies.specs.declared.origins.Last.{Last}
use Rattle.ckc_passes.specs.code.Forward.{emptied, filled}
use Rattle.ckc_passes_copies.specs.code.Tables.{block_with, entry, none_yet}
use Rattle.ckc_passes_copies.proofs.Tracing.{kept_empty}
use Rattle.ckc_passes_copies.proofs.blocks.made_blocks.Goals as goal

pub loop-block-preserved : goal.loop-block-preserved
loop-block-preserved c =
    let table = c.args.table.now in
    let block = c.block-item.result in
    let blocks = c.args.blocks.now in
    let i = c.loop-block.block-index in
    let before = c.loop-block.invariant in
    let more : take (i + 1) blocks ≡ take i blocks ++ block ∷ [] =
    take_more blocks i block c.loop-block-test.true ∙ ap (λ (b : TacBlock). take i blocks ++ b ∷ []) (sym c.block-item.is) in
    record {
      table = c.in_ok-one.ensures.table
          ∙ ap (λ (l : List Last). emptied none_yet block.ops (filled entry 0 block.ops l)) before.table
          ∙ kept_empty table block.ops c.requires.empty;
      made = c.in_ok-push.ensures.items
          ∙ ap (λ (l : List TacBlock). l ++ c.in_ok-one.one ∷ []) before.made
          ∙ ap (λ (b : TacBlock). map (block_with table) (take i blocks) ++ b ∷ []) (c.in_ok-one.ensures.made ∙ ap (λ (l : List Last). block_with l block) before.table)
          ∙ sym (map-append (block_with table) (take i blocks) (block ∷ []))
          ∙ ap (map (block_with table)) (sym more);
    }
