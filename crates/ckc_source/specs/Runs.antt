-- When the range of a pointer is true (Checked C specification 0.9, section 3, on the meaning of bounds): it lies within
-- one run of elements of its type.
use Rattle.std.specs.Prelude.{ℕ, zero, suc, ◌+◌, ◌-◌, ◌*◌, ◌%◌, ◌==◌, nat_lt, nat_le, Bool, false, not, ◌&&◌, ◌||◌, if◌then◌else◌, List, [], slice_get, Option, Some, None}
use Rattle.std.specs.List.{list_any}
use Rattle.ckc_types.specs.declared.types.CType.{CType, CType-F, out-CType}
use Rattle.ckc_source.specs.declared.expr.Pointee.{Pointee}
use Rattle.ckc_source.specs.declared.program.MemberRun.{MemberRun}
use Rattle.ckc_source.specs.declared.program.Shape.{Shape}
use Rattle.ckc_types.specs.Same.{same_type}
use Rattle.ckc_source.specs.Blocks.{Block, end_of}

-- The range from low to high, and the pointer n, lie in the run from begin to end: both ends are within it, and all
-- are elements of it, counted in the size of one. The pointer itself may be outside.
abbrev pub is_within : (begin end size n low high : ℕ) → Bool
is_within begin end size n low high =
    nat_lt 0 size && nat_le begin low && nat_le low high && nat_le high end
    && (low % size == begin % size) && (high % size == begin % size) && (n % size == begin % size)

-- The whole block is a run. The range of a null-terminated one ends at its last element at most.
abbrev pub is_in_block : Pointee → ℕ → ℕ → ℕ → Block → Bool
is_in_block to n low high b =
    same_type to.element b.element
    && (if b.terminated then is_within b.base (end_of b - b.size) to.size n low high
    else not to.terminated && is_within b.base (end_of b) to.size n low high)

-- some number below a bound passes the test
unfoldable pub any_below : ℕ → (ℕ → Bool) → Bool
any_below zero test = false
any_below (suc n) test = test n || any_below n test

-- the range lies in the run of so many bytes after an address, which lies in the block
abbrev pub is_at : Block → (begin size n low high : ℕ) → Bool
is_at b begin size n low high = nat_le (begin + size) (end_of b) && is_within begin (begin + size) size n low high

-- the same, after the begin of some element of the block
abbrev pub is_in_some_element : Block → (offset size n low high : ℕ) → Bool
is_in_some_element b offset size n low high =
    any_below b.count (λ i. is_at b (b.base + (i * b.size + offset)) size n low high)

-- one member of one element of the block is a run of one
abbrev pub is_in_member : Pointee → ℕ → ℕ → ℕ → Block → MemberRun → Bool
is_in_member to n low high b m =
    same_type to.element m.ctype && nat_le (m.offset + to.size) b.size && is_in_some_element b m.offset to.size n low high

-- the members of a structure that are runs, and none if there is no structure
abbrev pub runs_of : Option Shape → List MemberRun
runs_of (Some shape) = shape.runs
runs_of None = []

-- the members of a type that are runs, which only a structure has
abbrev pub runs_in : List Shape → CType-F CType → List MemberRun
runs_in shapes (CType-F.Struct tag) = runs_of (slice_get shapes tag)
runs_in shapes _ = []

-- the members of the elements of a block that are runs
abbrev pub member_runs : List Shape → Block → List MemberRun
member_runs shapes b = runs_in shapes (out-CType b.element)

-- the range lies in a run of this block: the whole block, or a member of one of its elements
abbrev pub is_in : List Shape → Pointee → ℕ → ℕ → ℕ → Block → Bool
is_in shapes to n low high b =
    b.is_run
    && (is_in_block to n low high b || (not to.terminated && list_any (is_in_member to n low high b) (member_runs shapes b)))

-- The range of a pointer n that is not null is true: some run has it.
abbrev pub is_true : List Shape → List Block → Pointee → ℕ → ℕ → ℕ → Bool
is_true shapes blocks to n low high = list_any (is_in shapes to n low high) blocks
