-- Where the lines of a program stand: its start, the entry of each function, and each block.
use Rattle.std.proofs.Common.{◌≡◌, ℕ, ◌+◌, List, ◌∷◌, Some}
use Rattle.std.specs.List.{slice_get}
use Rattle.ckc_rv.specs.declared.instructions.Instr.TheVariants.{Lui}
use Rattle.ckc_asm_lines.specs.declared.lines.Line.{Line}
use Rattle.ckc_asm_lines.specs.declared.lines.Line.TheVariants.{Label, Plain, Far}
use Rattle.ckc_tac.specs.declared.code.TacBlock.{TacBlock}
use Rattle.ckc_frame.specs.declared.code.PlacedFunc.{PlacedFunc}
use Rattle.ckc_frame.specs.Meaning.{calls_in_front}
use Rattle.ckc_emit.specs.code.Lines.{store_lines, ask_lines}
use Rattle.ckc_emit.specs.code.ProgramLines.{label_of, ops_lines, end_lines, is_near, is_turned}
use Rattle.ckc_emit.proofs.Paths.{Code, LinesAt}

-- the label of a block of the function with a number
abbrev pub block_label : List PlacedFunc → (index b : ℕ) → ℕ
block_label functions index b = label_of functions index + 1 + b

-- if there is such a block, the lines begin with its label
abbrev pub BeginsWith : List PlacedFunc → (index : ℕ) → List TacBlock → (b : ℕ) → List Line → Type 0
BeginsWith functions index blocks b lines =
    (block : TacBlock) → slice_get blocks b ≡ Some block → (more : List Line) × (lines ≡ Label (block_label functions index b) ∷ more)

module _ (functions : List PlacedFunc) (c : Code) where
  -- the lines of a block stand after its label, and after them the next block
  pub record BlockStands (index : ℕ) (f : PlacedFunc) (b : ℕ) (block : TacBlock) : Type 0 where
    pub behind : List Line
    pub there : LinesAt c (c.label (block_label functions index b))
        (ops_lines functions f (calls_in_front f.code.blocks b) block.ops (end_lines (is_near functions f (label_of functions index)) (is_turned functions f (label_of functions index)) functions f (label_of functions index + 1) (b + 1) block.end behind))
    pub next : BeginsWith functions index f.code.blocks (b + 1) behind

  -- the store of the return address stands at the label of a function, and after it its first block
  pub record EntryStands (index : ℕ) (f : PlacedFunc) : Type 0 where
    pub behind : List Line
    pub there : LinesAt c (c.label (label_of functions index)) (store_lines 1 2 0 behind)
    pub next : BeginsWith functions index f.code.blocks 0 behind

  -- all of a program stands
  pub record Stands (main : ℕ) : Type 0 where
    pub behind : List Line
    pub start : LinesAt c 0x1000 (Plain (Lui 2 0x3FFC) ∷ Far 1 (label_of functions main) ∷ ask_lines 0 behind)
    pub entry : (index : ℕ) (f : PlacedFunc) → slice_get functions index ≡ Some f → EntryStands index f
    pub block : (index : ℕ) (f : PlacedFunc) (b : ℕ) (block : TacBlock) → slice_get functions index ≡ Some f
        → slice_get f.code.blocks b ≡ Some block → BlockStands index f b block
