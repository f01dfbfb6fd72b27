-- The data region of a compiled program: statics and heap, from 0x02000000 to below 0x03000000 (docs/language.md).
pub use Rattle.ckc_base.specs.MemoryMap.{data_start, data_end}
use Rattle.std.specs.Prelude.{ℕ, zero, suc, ◌+◌, ◌-◌, ◌*◌, ◌/◌, ◌%◌, ◌^◌, ◌==◌, nat_lt, nat_le, not, ◌&&◌, Bool, if◌then◌else◌, List, slice_index, Option, Some, None, option_and_then}
use Rattle.std.specs.Option.{option_map}
use Rattle.ckc_base.specs.declared.arithmetic.Width.{Width}
use Rattle.ckc_base.specs.declared.arithmetic.Width.TheVariants.{Byte, Word}

-- the byte at each address that is there
abbrev pub Memory : Type 0
Memory = ℕ → Option ℕ

abbrev pub is_data : ℕ → Bool
is_data a = not (nat_lt a data_start) && nat_lt a data_end

-- the region at the start: the initial bytes, and then zeros; nothing else is there
unfoldable pub first_memory : List ℕ → Memory
first_memory initial a = if is_data a then Some (slice_index initial (a - data_start)) else None

-- the number that so many bytes from an address on spell, the lowest first, if all are there
unfoldable pub bytes_from : Memory → ℕ → ℕ → Option ℕ
bytes_from memory zero a = Some 0
bytes_from memory (suc count) a =
    option_and_then (λ low. option_map (λ high. low + 256 * high) (bytes_from memory count (a + 1))) (memory a)

-- the memory with another byte at an address
unfoldable pub with_byte : Memory → ℕ → ℕ → Memory
with_byte memory a byte q = if q == a then Some byte else memory q

-- the memory with the lowest bytes of a number from an address on
unfoldable pub with_bytes : Memory → ℕ → ℕ → ℕ → Memory
with_bytes memory zero a value = memory
with_bytes memory (suc count) a value = with_byte (with_bytes memory count (a + 1) (value / 256)) a (value % 256)

-- how many bytes an access of the width reads or writes
abbrev pub width_bytes : Width → ℕ
width_bytes Byte = 1
width_bytes Word = 4

-- what of a value a store of the width keeps
abbrev pub kept_part : Width → ℕ → ℕ
kept_part Byte value = value % 256
kept_part Word value = value

-- the value at an address, if the access is aligned and within the region
abbrev pub value_at : Width → Memory → ℕ → Option ℕ
value_at width memory a =
    if a % width_bytes width == 0 then bytes_from memory (width_bytes width) a else None

-- the memory after a store, if the access is aligned and within the region
abbrev pub memory_with : Width → Memory → ℕ → ℕ → Option Memory
memory_with width memory a value =
    if a % width_bytes width == 0 && is_data a then Some (with_bytes memory (width_bytes width) a value) else None

-- ---- the heap

-- The heap word is the first word of the region and holds the place of the next heap block. A block of so many
-- elements of a size begins there. There is none if the count is not positive as a signed word, or if it
-- would end past the region.
abbrev pub heap_has_room : (place count size : ℕ) → Bool
heap_has_room place count size =
    nat_lt 0 count && nat_lt count (2 ^ 31) && nat_le (place + count * size) data_end

-- the place of the block after one: the least multiple of 8 that is at least 8 past its end
abbrev pub next_place : (place count size : ℕ) → ℕ
next_place place count size = (place + count * size + 15) / 8 * 8
