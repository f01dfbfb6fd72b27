-- Blocks are taken one after another: what is left of them.
use Rattle.std.specs.Prelude.{ℕ, List, ◌++◌, drop}
use Rattle.ckc_tac.specs.declared.code.TacBlock.{TacBlock}
use Rattle.ckc_passes_jumps.specs.Jumps.{Left}

-- So many blocks are taken: what is left of the others, put behind what is left of these, is left of all.
abbrev pub IsTaken : List TacBlock → (count : ℕ) (left : List TacBlock) → Type 0
IsTaken blocks count left = (rest : List TacBlock) → Left blocks count (drop count blocks) rest → Left blocks 0 blocks (left ++ rest)
