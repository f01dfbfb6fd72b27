-- The size of three-address code: how many instructions it may be compiled to.
use Rattle.std.specs.Prelude.{ℕ, ◌+◌, ◌==◌, if◌then◌else◌, List, length, sum_by}
use Rattle.ckc_base.specs.Sizes.{const_size, copy_size, operation_size, load_size, store_size, get_size, put_size, alloc_size, call_size, jump_size, return_size, entry_size}
use Rattle.ckc_tac.specs.declared.code.Tac.{Tac}
use Rattle.ckc_tac.specs.declared.code.TacFunc.{TacFunc}
use Rattle.ckc_tac.specs.declared.code.TacBlock.{TacBlock}
use Rattle.ckc_tac.specs.declared.code.Operand.{Operand}
use Rattle.ckc_tac.specs.declared.code.Operand.TheVariants.{Register, Number}
use Rattle.ckc_tac.specs.declared.code.TacOp.{TacOp}
use Rattle.ckc_tac.specs.declared.code.TacOp.TheVariants.{Const, Copy, Bin, High, Load, Store, Check, Call, Get, Put, Alloc}
use Rattle.ckc_tac.specs.declared.code.TacEnd.{TacEnd}
use Rattle.ckc_tac.specs.declared.code.TacEnd.TheVariants.{Jump, Branch, Return}

-- the instructions that read an operand; the number 0 needs none
abbrev pub operand_size : Operand → ℕ
operand_size (Register r) = 3
operand_size (Number n) = if n == 0 then 0 else 2

abbrev pub op_size : TacOp → ℕ
op_size (Const t n) = const_size
op_size (Copy t a) = copy_size
op_size (Bin op t a b) = operation_size
op_size (High is_signed t a b) = operation_size
op_size (Load width t a n) = load_size
op_size (Store width a n b) = store_size
op_size (Check check at comparison a b) = operand_size a + operand_size b + 10
op_size (Call target callee arguments at) = call_size (length arguments)
op_size (Get t) = get_size
op_size (Put a) = put_size
op_size (Alloc t a size) = alloc_size

abbrev pub end_size : TacEnd → ℕ
end_size (Jump to) = jump_size
end_size (Branch comparison a b one two) = operand_size a + operand_size b + 5
end_size (Return a) = return_size

abbrev pub ops_size : List TacOp → ℕ
ops_size ops = sum_by op_size ops

abbrev pub block_size : TacBlock → ℕ
block_size block = ops_size block.ops + end_size block.end

abbrev pub function_size : TacFunc → ℕ
function_size f = entry_size + sum_by block_size f.blocks

abbrev pub program_size : Tac → ℕ
program_size p = sum_by function_size p.funcs
