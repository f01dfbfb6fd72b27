-- The size of core code: a bound on the size of the three-address code that it is lowered to.
use Rattle.std.specs.Prelude.{ℕ, ◌+◌, List, length, sum_by}
use Rattle.ckc_base.specs.Sizes.{const_size, copy_size, operation_size, load_size, store_size, check_size, get_size, put_size, alloc_size, call_size, jump_size, branch_size, return_size, entry_size}
use Rattle.ckc_core.specs.Code.{Expr, Const, Local, Load, Bin, High, Code, End, Set, Store, Check, Call, Get, Put, Alloc, If, Loop, Break, Continue, Return, Function, Program}

-- a local is read where it stands
abbrev pub expr_size : Expr → ℕ
expr_size (Const n) = const_size
expr_size (Local x) = 0
expr_size (Load width a) = load_size + expr_size a
expr_size (Bin op a b) = operation_size + expr_size a + expr_size b
expr_size (High is_signed a b) = operation_size + expr_size a + expr_size b

abbrev pub exprs_size : List Expr → ℕ
exprs_size es = sum_by expr_size es

-- what is written to a local where it stands
abbrev pub set_size : Expr → ℕ
set_size (Local x) = copy_size
set_size (Const n) = const_size
set_size (Load width a) = expr_size (Load width a)
set_size (Bin op a b) = expr_size (Bin op a b)
set_size (High is_signed a b) = expr_size (High is_signed a b)

-- the end of a list is a jump
abbrev pub code_size : Code → ℕ
code_size End = jump_size
code_size (Set x e rest) = set_size e + code_size rest
code_size (Store width a e rest) = store_size + expr_size a + expr_size e + code_size rest
code_size (Check check at e rest) = check_size + expr_size e + code_size rest
code_size (Call target callee es at rest) = call_size (length es) + exprs_size es + code_size rest
code_size (Get x rest) = get_size + code_size rest
code_size (Put e rest) = put_size + expr_size e + code_size rest
code_size (Alloc x e size rest) = alloc_size + expr_size e + code_size rest
code_size (If e one two rest) = branch_size + expr_size e + code_size one + code_size two + code_size rest
code_size (Loop body step rest) = jump_size + code_size body + code_size step + code_size rest
code_size (Break rest) = jump_size + code_size rest
code_size (Continue rest) = jump_size + code_size rest
code_size (Return e rest) = return_size + expr_size e + code_size rest

-- a function has an entry, and its end returns 0
abbrev pub function_size : Function → ℕ
function_size f = entry_size + const_size + return_size + code_size f.body

abbrev pub program_size : Program → ℕ
program_size p = sum_by function_size p.functions
