-- How many instructions each kind of operation may be compiled to. The sizes of core code, three-address code and
-- placed code are sums of these, so that the bounds of the passes add up.
use Rattle.std.specs.Prelude.{ℕ, ◌+◌, ◌*◌}

abbrev pub const_size : ℕ
const_size = 5

abbrev pub copy_size : ℕ
copy_size = 6

abbrev pub operation_size : ℕ
operation_size = 11

abbrev pub load_size : ℕ
load_size = 7

abbrev pub store_size : ℕ
store_size = 7

abbrev pub check_size : ℕ
check_size = 14

abbrev pub get_size : ℕ
get_size = 6

abbrev pub put_size : ℕ
put_size = 7

abbrev pub alloc_size : ℕ
alloc_size = 32

-- a call with so many arguments
abbrev pub call_size : ℕ → ℕ
call_size count = 64 + 8 * count

abbrev pub jump_size : ℕ
jump_size = 2

abbrev pub branch_size : ℕ
branch_size = 8

abbrev pub return_size : ℕ
return_size = 8

-- the entry of a function
abbrev pub entry_size : ℕ
entry_size = 8
