-- Words and their bytes, and the memory that words and code make.
use Rattle.std.specs.Prelude.{ℕ, ◌+◌, ◌-◌, ◌/◌, ◌%◌, nat_lt, if◌then◌else◌, List, length, slice_index, Some, None}
use Rattle.std.specs.Int.{byte_at}
use Rattle.ckc_rv.specs.Machine.{Memory, code_start, data_start, stack_start, memory_end}

-- byte i of a word, the lowest first
abbrev pub byte_of : ℕ → ℕ → ℕ
byte_of word i = byte_at i word

-- byte k of words, four of each
abbrev pub byte_in : List ℕ → ℕ → ℕ
byte_in words k = byte_of (slice_index words (k / 4)) (k % 4)

-- the byte at an address of the stack, whose words run downwards from the end of memory
abbrev pub stack_byte : List ℕ → ℕ → ℕ
stack_byte words a = byte_of (slice_index words ((memory_end - 1 - a) / 4)) (a % 4)

-- The memory that has this code, and these words in the data region and in the stack.
unfoldable pub memory_of_words : List ℕ → List ℕ → List ℕ → Memory
memory_of_words code statics stack a =
    if nat_lt a code_start then None
    else if nat_lt a (code_start + length code) then Some (slice_index code (a - code_start))
    else if nat_lt a data_start then None
    else if nat_lt a stack_start then Some (byte_in statics (a - data_start))
    else if nat_lt a memory_end then Some (stack_byte stack a)
    else None
