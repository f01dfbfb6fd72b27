-- Which three-address code names only what is there.
use Rattle.std.specs.Prelude.{◌≡◌, ℕ, ◌+◌, ◌%◌, ◌≤◌, ◌<◌, ◌^◌, List, length, slice_get, Option, Some, None, All, IfSome}
use Rattle.ckc_base.specs.declared.places.Pos.{Pos}
use Rattle.ckc_tac.specs.declared.code.Tac.{Tac}
use Rattle.ckc_tac.specs.declared.code.TacFunc.{TacFunc}
use Rattle.ckc_tac.specs.declared.code.TacBlock.{TacBlock}
use Rattle.ckc_tac.specs.declared.code.Operand.{Operand}
use Rattle.ckc_tac.specs.declared.code.Operand.TheVariants.{Register, Number}
use Rattle.ckc_tac.specs.declared.code.TacOp.{TacOp}
use Rattle.ckc_tac.specs.declared.code.TacOp.TheVariants.{Const, Copy, Bin, High, Load, Store, Check, Call, Get, Put, Alloc}
use Rattle.ckc_tac.specs.declared.code.TacEnd.{TacEnd}
use Rattle.ckc_tac.specs.declared.code.TacEnd.TheVariants.{Jump, Branch, Return}

-- the function is there and has so many parameters
abbrev pub HasParams : ℕ → Option TacFunc → Type 0
HasParams count (Some f) = f.params ≡ count
HasParams count None = ⊥

abbrev pub IsPlace : Pos → Type 0
IsPlace at = (at.line < 2 ^ 32) × (at.col < 2 ^ 32)

-- the register is one of so many, or the number is a word
abbrev pub IsOperandOver : ℕ → Operand → Type 0
IsOperandOver regs (Register r) = r < regs
IsOperandOver regs (Number n) = n < 2 ^ 32

-- a word whose signed view is from -2,048 to 2,047
abbrev pub IsOffset : ℕ → Type 0
IsOffset n = (n + 2048) % 2 ^ 32 < 4096

-- every register is one of so many, every number is a word, every offset is a small one, and a call names a function
-- that is there, with as many arguments as it has parameters
abbrev pub IsOpOver : List TacFunc → ℕ → TacOp → Type 0
IsOpOver functions regs (Const t n) = (t < regs) × (n < 2 ^ 32)
IsOpOver functions regs (Copy t a) = (t < regs) × (a < regs)
IsOpOver functions regs (Bin op t a b) = (t < regs) × IsOperandOver regs a × IsOperandOver regs b
IsOpOver functions regs (High is_signed t a b) = (t < regs) × IsOperandOver regs a × IsOperandOver regs b
IsOpOver functions regs (Load width t a n) = (t < regs) × IsOperandOver regs a × IsOffset n
IsOpOver functions regs (Store width a n b) = IsOperandOver regs a × IsOffset n × IsOperandOver regs b
IsOpOver functions regs (Check check at comparison a b) = IsPlace at × IsOperandOver regs a × IsOperandOver regs b
IsOpOver functions regs (Call target callee arguments at) =
    IfSome target (λ t. t < regs) × HasParams (length arguments) (slice_get functions callee)
    × All (λ r. r < regs) arguments × IsPlace at
IsOpOver functions regs (Get t) = t < regs
IsOpOver functions regs (Put a) = IsOperandOver regs a
IsOpOver functions regs (Alloc t a size) = (t < regs) × IsOperandOver regs a × (size < 2 ^ 32)

-- every block that is named is one of so many
abbrev pub IsEndOver : (blocks regs : ℕ) → TacEnd → Type 0
IsEndOver blocks regs (Jump to) = to < blocks
IsEndOver blocks regs (Branch comparison a b one two) = IsOperandOver regs a × IsOperandOver regs b × (one < blocks) × (two < blocks)
IsEndOver blocks regs (Return a) = IsOperandOver regs a

abbrev pub IsBlockOver : List TacFunc → (blocks regs : ℕ) → TacBlock → Type 0
IsBlockOver functions blocks regs block = All (IsOpOver functions regs) block.ops × IsEndOver blocks regs block.end

abbrev pub IsFunctionOver : List TacFunc → TacFunc → Type 0
IsFunctionOver functions f =
    (f.params ≤ f.regs) × (0 < length f.blocks) × All (IsBlockOver functions (length f.blocks) f.regs) f.blocks

-- every register, block and function that is named exists, each function has a block, calls have the right number of
-- arguments, and `main` is there and has no parameters
pub record IsWellFormed (p : Tac) : Type 0 where
  pub functions : All (IsFunctionOver p.funcs) p.funcs
  pub main : HasParams 0 (slice_get p.funcs p.main)

-- each function has at most 4,064 registers, as many as there are places in a frame
abbrev pub HasFewRegisters : Tac → Type 0
HasFewRegisters p = All (λ f. f.regs ≤ 4064) p.funcs
