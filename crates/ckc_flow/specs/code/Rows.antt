-- Rows of marks, one for each register: how they pass operations and ends of blocks.
use Rattle.std.specs.Prelude.{ℕ, Bool, true, false, ◌||◌, List, [], ◌∷◌, get_or, set, replicate, Option, Some, None}
use Rattle.ckc_tac.specs.declared.code.TacBlock.{TacBlock}
use Rattle.ckc_tac.specs.declared.code.Operand.{Operand}
use Rattle.ckc_tac.specs.declared.code.Operand.TheVariants.{Register, Number}
use Rattle.ckc_tac.specs.declared.code.TacOp.{TacOp}
use Rattle.ckc_tac.specs.declared.code.TacOp.TheVariants.{Const, Copy, Bin, High, Load, Store, Check, Call, Get, Put, Alloc}
use Rattle.ckc_tac.specs.declared.code.TacEnd.{TacEnd}
use Rattle.ckc_tac.specs.declared.code.TacEnd.TheVariants.{Jump, Branch, Return}

-- the row with the mark of what an operand reads
abbrev pub marked : Operand → List Bool → List Bool
marked (Register r) row = set row r true
marked (Number n) row = row

abbrev pub all_marked : List ℕ → List Bool → List Bool
all_marked [] row = row
all_marked (r ∷ rs) row = all_marked rs (set row r true)

abbrev pub cleared : Option ℕ → List Bool → List Bool
cleared (Some t) row = set row t false
cleared None row = row

-- the row in front of an operation, from the one after it
abbrev pub passed : TacOp → List Bool → List Bool
passed (Const t n) row = set row t false
passed (Copy t a) row = set (set row t false) a true
passed (Bin op t a b) row = marked b (marked a (set row t false))
passed (High is_signed t a b) row = marked b (marked a (set row t false))
passed (Load width t a n) row = marked a (set row t false)
passed (Store width a n b) row = marked b (marked a row)
passed (Check check at comparison a b) row = marked b (marked a row)
passed (Call target callee arguments at) row = all_marked arguments (cleared target row)
passed (Get t) row = set row t false
passed (Put a) row = marked a row
passed (Alloc t a size) row = marked a (set row t false)

abbrev pub passed_all : List TacOp → List Bool → List Bool
passed_all [] row = row
passed_all (op ∷ ops) row = passed op (passed_all ops row)

-- the row with the marks of another one
abbrev pub joined : List Bool → List Bool → List Bool
joined [] row = row
joined (x ∷ xs) [] = []
joined (x ∷ xs) (y ∷ ys) = (x || y) ∷ joined xs ys

-- the row in front of the end of a block, from those of all blocks
abbrev pub ended : List (List Bool) → ℕ → TacEnd → List Bool
ended rows regs (Jump to) = joined (get_or rows to []) (replicate regs false)
ended rows regs (Branch comparison a b one two) =
    marked b (marked a (joined (get_or rows two []) (joined (get_or rows one []) (replicate regs false))))
ended rows regs (Return a) = marked a (replicate regs false)

-- the row at the beginning of a block, from those of all blocks
abbrev pub made : List (List Bool) → ℕ → TacBlock → List Bool
made rows regs block = passed_all block.ops (ended rows regs block.end)
