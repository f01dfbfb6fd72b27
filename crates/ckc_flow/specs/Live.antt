-- Which registers are live at a place of three-address code.
use Rattle.std.specs.Prelude.{◌≡◌, ◌↔◌, ℕ, ◌<◌, ◌==◌, Bool, true, false, ◌||◌, List, [], ◌∷◌, length, get_or, slice_get, Option, Some, None}
use Rattle.std.specs.List.{list_any}
use Rattle.ckc_tac.specs.declared.code.TacFunc.{TacFunc}
use Rattle.ckc_tac.specs.declared.code.TacBlock.{TacBlock}
use Rattle.ckc_tac.specs.declared.code.Operand.{Operand}
use Rattle.ckc_tac.specs.declared.code.Operand.TheVariants.{Register, Number}
use Rattle.ckc_tac.specs.declared.code.TacOp.{TacOp}
use Rattle.ckc_tac.specs.declared.code.TacOp.TheVariants.{Const, Copy, Bin, High, Load, Store, Check, Call, Get, Put, Alloc}
use Rattle.ckc_tac.specs.declared.code.TacEnd.{TacEnd}
use Rattle.ckc_tac.specs.declared.code.TacEnd.TheVariants.{Jump, Branch, Return}

-- Whether an operand is the register.
abbrev pub is_register : ℕ → Operand → Bool
is_register r (Register q) = q == r
is_register r (Number n) = false

-- Whether an operation reads the register.
abbrev pub reads : ℕ → TacOp → Bool
reads r (Const t n) = false
reads r (Copy t a) = a == r
reads r (Bin op t a b) = is_register r a || is_register r b
reads r (High is_signed t a b) = is_register r a || is_register r b
reads r (Load width t a n) = is_register r a
reads r (Store width a n b) = is_register r a || is_register r b
reads r (Check check at comparison a b) = is_register r a || is_register r b
reads r (Call target callee arguments at) = list_any (λ a. a == r) arguments
reads r (Get t) = false
reads r (Put a) = is_register r a
reads r (Alloc t a size) = is_register r a

-- The register that an operation writes, if there is one.
abbrev pub target_of : TacOp → Option ℕ
target_of (Const t n) = Some t
target_of (Copy t a) = Some t
target_of (Bin op t a b) = Some t
target_of (High is_signed t a b) = Some t
target_of (Load width t a n) = Some t
target_of (Store width a n b) = None
target_of (Check check at comparison a b) = None
target_of (Call target callee arguments at) = target
target_of (Get t) = Some t
target_of (Put a) = None
target_of (Alloc t a size) = Some t

-- Whether the end of a block reads the register.
abbrev pub end_reads : ℕ → TacEnd → Bool
end_reads r (Jump to) = false
end_reads r (Branch comparison a b one two) = is_register r a || is_register r b
end_reads r (Return a) = is_register r a

-- Whether control may go from the end of a block to the block with this number.
abbrev pub leads_to : ℕ → TacEnd → Bool
leads_to b (Jump to) = to == b
leads_to b (Branch comparison a c one two) = (one == b) || (two == b)
leads_to b (Return a) = false

-- A register is live in front of operations and the end of their block: some path of blocks from there reads it before
-- it writes it.
pub data IsLive (blocks : List TacBlock) (r : ℕ) : List TacOp → TacEnd → Type 0 where
  read_here : {op : TacOp} {ops : List TacOp} {end : TacEnd} → reads r op ≡ true → IsLive blocks r (op ∷ ops) end
  read_later : {op : TacOp} {ops : List TacOp} {end : TacEnd} → (target_of op ≡ Some r → ⊥) → IsLive blocks r ops end → IsLive blocks r (op ∷ ops) end
  read_at_end : {end : TacEnd} → end_reads r end ≡ true → IsLive blocks r [] end
  read_in_block : {end : TacEnd} (b : ℕ) (block : TacBlock) → leads_to b end ≡ true → slice_get blocks b ≡ Some block
      → IsLive blocks r block.ops block.end → IsLive blocks r [] end

-- A row has a mark for each register of a function, and it is set exactly when the register is live.
pub record IsExact (f : TacFunc) (ops : List TacOp) (end : TacEnd) (row : List Bool) : Type 0 where
  pub long : length row ≡ f.regs
  pub exact : (r : ℕ) → r < f.regs → (get_or row r false ≡ true) ↔ IsLive f.blocks r ops end

-- There is a row for each block, exact at the beginning of the block.
pub record AreExact (f : TacFunc) (rows : List (List Bool)) : Type 0 where
  pub long : length rows ≡ length f.blocks
  pub exact : (b : ℕ) (block : TacBlock) → slice_get f.blocks b ≡ Some block → IsExact f block.ops block.end (get_or rows b [])
