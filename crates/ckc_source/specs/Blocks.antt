-- Storage (ISO C11, 3.14 and 6.2.4: storage consists of objects, each with an address and bytes). It is a list of
-- blocks, each a static object, a string literal or what `calloc` made.
pub use Rattle.ckc_base.specs.MemoryMap.{first_place}
use Rattle.std.specs.Prelude.{ℕ, ◌+◌, ◌-◌, ◌*◌, ◌/◌, ◌%◌, ◌==◌, nat_le, ◌&&◌, Bool, true, if◌then◌else◌, List, [], ◌∷◌, ◌++◌, map, length, replicate, slice_index, slice_set, Option, Some, None}
use Rattle.std.specs.List.{list_any}
use Rattle.ckc_types.specs.declared.types.CType.{CType}
use Rattle.ckc_base.specs.declared.arithmetic.Width.{Width}
use Rattle.ckc_base.specs.declared.arithmetic.Width.TheVariants.{Byte, Word}
use Rattle.ckc_base.specs.Memory.{width_bytes}
use Rattle.ckc_source.specs.declared.expr.Pointee.{Pointee}
use Rattle.ckc_source.specs.declared.program.Object.{Object}

-- A block: its base, the type and the size of an element, how many there are, whether they are a null-terminated
-- array, whether checked pointers with known limits may point into it, and its bytes.
pub record Block : Type 0 where
  pub base : ℕ
  pub element : CType
  pub size : ℕ
  pub count : ℕ
  pub terminated : Bool
  pub is_run : Bool
  pub bytes : List ℕ

-- the address after the last byte of a block
abbrev pub end_of : Block → ℕ
end_of b = b.base + length b.bytes

-- ---- loads and stores

-- an access of the width at an address lies in the block
abbrev pub has : Width → ℕ → Block → Bool
has width a b = nat_le b.base a && nat_le (a + width_bytes width) (end_of b)

-- the number that the bytes from an index on spell, the lowest first (RISC-V ELF psABI: memory is little-endian)
abbrev pub number_at : Width → List ℕ → ℕ → ℕ
number_at Byte bytes i = slice_index bytes i
number_at Word bytes i = slice_index bytes i + 256 * (slice_index bytes (i + 1) + 256 * (slice_index bytes (i + 2) + 256 * slice_index bytes (i + 3)))

-- the bytes with a number from an index on
abbrev pub with_number : Width → List ℕ → ℕ → ℕ → List ℕ
with_number Byte bytes i n = slice_set bytes i (n % 256)
with_number Word bytes i n =
    slice_set (slice_set (slice_set (slice_set bytes i (n % 256)) (i + 1) (n / 256 % 256)) (i + 2) (n / 65536 % 256)) (i + 3) (n / 16777216 % 256)

-- whether an address is a multiple of the number of bytes that the access reads or writes
abbrev pub is_aligned : Width → ℕ → Bool
is_aligned width a = a % width_bytes width == 0

-- the number at an address in the first block that has the access
unfoldable pub found : Width → ℕ → List Block → Option ℕ
found width a [] = None
found width a (b ∷ blocks) = if has width a b then Some (number_at width b.bytes (a - b.base)) else found width a blocks

-- what a load gives: the number there, if the access is aligned and lies in one block
abbrev pub loaded : Width → ℕ → List Block → Option ℕ
loaded width a blocks = if is_aligned width a then found width a blocks else None

-- an access is aligned and lies in one block
abbrev pub lies_in : Width → ℕ → List Block → Bool
lies_in width a blocks = is_aligned width a && list_any (has width a) blocks

-- a block after a store of a number, which changes it if the access lies in it
abbrev pub changed : Width → ℕ → ℕ → Block → Block
changed width a n b = if has width a b then record b { bytes = with_number width b.bytes (a - b.base) n } else b

-- the blocks after a store of a number, if the access is aligned and lies in one block
abbrev pub stored : Width → ℕ → ℕ → List Block → Option (List Block)
stored width a n blocks = if lies_in width a blocks then Some (map (changed width a n) blocks) else None

-- ---- new blocks

-- A static object's block has its first bytes and then zeros.
abbrev pub block_of : Object → Block
block_of o = record {
  base = o.at;
  element = o.element;
  size = o.size;
  count = o.count;
  terminated = o.terminated;
  is_run = o.is_run;
  bytes = o.initial ++ replicate (o.size * o.count - length o.initial) 0;
}

-- a block of so many zero elements (ISO C11, 7.22.3.2)
abbrev pub fresh : Pointee → ℕ → ℕ → Block
fresh to base count = record {
  base = base;
  element = to.element;
  size = to.size;
  count = count;
  terminated = to.terminated;
  is_run = true;
  bytes = replicate (to.size * count) 0;
}

-- The place of the block after a list of blocks: 0x02000008 is the first, and each later one is the least multiple of
-- 8 that is at least 8 past the end of the block before it.
abbrev pub place_behind : ℕ → List Block → ℕ
place_behind place [] = place
place_behind place (b ∷ blocks) = place_behind ((end_of b + 15) / 8 * 8) blocks
