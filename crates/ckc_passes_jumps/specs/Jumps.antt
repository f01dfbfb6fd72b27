-- Where jumps lead past blocks that only jump on, which blocks are reached then, and the pass that keeps these.
use Rattle.std.specs.Prelude.{◌≡◌, ◌≢◌, ◌⊎◌, ℕ, ◌+◌, List, [], ◌∷◌, slice_get, Option, Some, None}
use Rattle.std.specs.List.{AllZip}
use Rattle.ckc_tac.specs.declared.code.Tac.{Tac}
use Rattle.ckc_tac.specs.declared.code.TacFunc.{TacFunc}
use Rattle.ckc_tac.specs.declared.code.TacBlock.{TacBlock}
use Rattle.ckc_tac.specs.declared.code.TacOp.{TacOp}
use Rattle.ckc_tac.specs.declared.code.TacEnd.{TacEnd}
use Rattle.ckc_tac.specs.declared.code.TacEnd.TheVariants.{Jump, Branch, Return}

-- ---- short jumps

-- the block that operations and an end pass on to, if there are none and it is a jump
abbrev pub passed_on : List TacOp → TacEnd → Option ℕ
passed_on [] (Jump to) = Some to
passed_on [] (Branch comparison x y one two) = None
passed_on [] (Return x) = None
passed_on (op ∷ ops) end = None

abbrev pub passes_to : TacBlock → Option ℕ
passes_to block = passed_on block.ops block.end

-- The way of passing blocks from the block b ends at the block c, the first one that does not pass on.
pub data Leads (blocks : List TacBlock) : (b c : ℕ) → Type 0 where
  arrives : {b : ℕ} (block : TacBlock) → slice_get blocks b ≡ Some block → passes_to block ≡ None → Leads blocks b b
  passes : {b c : ℕ} (block : TacBlock) (to : ℕ) → slice_get blocks b ≡ Some block → passes_to block ≡ Some to
      → Leads blocks to c → Leads blocks b c

-- What leads to the block b leads to c in its place: to where the way from b ends, or to b itself if that never ends.
abbrev pub IsShort : List TacBlock → (b c : ℕ) → Type 0
IsShort blocks b c = Leads blocks b c ⊎ (((d : ℕ) → Leads blocks b d → ⊥) × (c ≡ b))

-- ---- blocks that are reached

-- control may go from the end of a block to the block c, by a short jump
abbrev pub LeadsShort : List TacBlock → TacEnd → (c : ℕ) → Type 0
LeadsShort blocks (Jump to) c = IsShort blocks to c
LeadsShort blocks (Branch comparison x y one two) c = IsShort blocks one c ⊎ IsShort blocks two c
LeadsShort blocks (Return x) c = ⊥

-- The first block is reached, and each one that the end of a block leads to which is reached.
pub data IsReached (blocks : List TacBlock) : ℕ → Type 0 where
  at_entry : IsReached blocks 0
  along : {c : ℕ} (from : ℕ) (block : TacBlock) → slice_get blocks from ≡ Some block → LeadsShort blocks block.end c
      → IsReached blocks from → IsReached blocks c

-- So many of the blocks in front of b are reached: its new number, if it is reached too.
pub data IsPlace (blocks : List TacBlock) : (b place : ℕ) → Type 0 where
  at_first : IsPlace blocks 0 0
  counted : {b place : ℕ} → IsReached blocks b → IsPlace blocks b place → IsPlace blocks (b + 1) (place + 1)
  passed : {b place : ℕ} → (IsReached blocks b → ⊥) → IsPlace blocks b place → IsPlace blocks (b + 1) place

-- ---- the pass

-- the new number of the block that leads on in place of b
abbrev pub IsTarget : List TacBlock → (b place : ℕ) → Type 0
IsTarget blocks b place = (c : ℕ) × IsShort blocks b c × IsPlace blocks c place

-- A branch that leads to the same block twice becomes a jump.
abbrev pub EndAfter : List TacBlock → TacEnd → TacEnd → Type 0
EndAfter blocks (Jump to) low = (k : ℕ) × IsTarget blocks to k × (low ≡ Jump k)
EndAfter blocks (Branch comparison x y one two) low =
    (k l : ℕ) × IsTarget blocks one k × IsTarget blocks two l
    × (((k ≡ l) × (low ≡ Jump k)) ⊎ ((k ≢ l) × (low ≡ Branch comparison x y k l)))
EndAfter blocks (Return x) low = low ≡ Return x

-- the operations stay as they were
pub record BlockAfter (blocks : List TacBlock) (block low : TacBlock) : Type 0 where
  pub ops : low.ops ≡ block.ops
  pub end : EndAfter blocks block.end low.end

-- What is left of the blocks from the number b on: of each that is reached, what the pass makes of it.
pub data Left (blocks : List TacBlock) : (b : ℕ) (rest lows : List TacBlock) → Type 0 where
  none_left : {b : ℕ} → Left blocks b [] []
  stays : {b : ℕ} {block low : TacBlock} {rest lows : List TacBlock} → IsReached blocks b → BlockAfter blocks block low
      → Left blocks (b + 1) rest lows → Left blocks b (block ∷ rest) (low ∷ lows)
  goes : {b : ℕ} {block : TacBlock} {rest lows : List TacBlock} → (IsReached blocks b → ⊥)
      → Left blocks (b + 1) rest lows → Left blocks b (block ∷ rest) lows

pub record FunctionAfter (f low : TacFunc) : Type 0 where
  pub params : low.params ≡ f.params
  pub regs : low.regs ≡ f.regs
  pub blocks : Left f.blocks 0 f.blocks low.blocks

pub record ProgramAfter (t low : Tac) : Type 0 where
  pub initial : low.initial ≡ t.initial
  pub main : low.main ≡ t.main
  pub funcs : AllZip FunctionAfter t.funcs low.funcs
