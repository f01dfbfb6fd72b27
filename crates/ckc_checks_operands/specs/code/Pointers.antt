-- The ranges of pointers and the tests of accesses, of pointer arithmetic and of bounds casts, as expressions of core
-- code. They mirror what the code makes and need not be believed, but for `is_ranged` and `takes_range`.
use Rattle.std.specs.Prelude.{ℕ, ℤ, ◌+◌, ◌/◌, ◌%◌, ◌==◌, pos, nat_lt, Bool, true, false, not, ◌&&◌, if◌then◌else◌, Option, Some, None}
use Rattle.ckc_base.specs.declared.arithmetic.BinOp.TheVariants as binary
use Rattle.ckc_base.specs.declared.arithmetic.Width.TheVariants as width
use Rattle.ckc_base.specs.Words.{word_of, applied}
use Rattle.ckc_source.specs.declared.expr.Access.{Access}
use Rattle.ckc_source.specs.declared.expr.Count.{Count}
use Rattle.ckc_source.specs.declared.expr.Count.TheVariants as counts
use Rattle.ckc_source.specs.declared.expr.Base.{Base}
use Rattle.ckc_source.specs.declared.expr.Base.TheVariants as bases
use Rattle.ckc_source.specs.declared.expr.End.{End as LimitsEnd}
use Rattle.ckc_source.specs.declared.expr.Integer.{Integer}
use Rattle.ckc_source.specs.declared.expr.Limits.{Limits}
use Rattle.ckc_source.specs.declared.expr.Integer.TheVariants as integer
use Rattle.ckc_source.specs.declared.expr.Variable.{Variable}
use Rattle.ckc_source.specs.Code as source
use Rattle.ckc_source.specs.Eval.{place_in}
use Rattle.ckc_source.specs.Words.{width_of}
use Rattle.ckc_core.specs.Code.{Expr, Const, Local, Load, Bin, High}
use Rattle.ckc_checks_operands.specs.code.Operands.{scaled, shifted, at_offset}
pub use Rattle.ckc_checks_guards.specs.code.Guards.{below_or_at, upper_test, may_write}
use Rattle.ckc_checks_operands.specs.Cases.{is_own, is_fixed_end, is_ranged, takes_range}

-- how far after its pointer an index is
abbrev pub index_far : Bool → ℕ
index_far true = 3
index_far false = 1

abbrev pub reads_signed : Integer → Bool
reads_signed integer.Int = true
reads_signed _ = false

-- The address so many elements further on, or back, is one if the upper word of the product and the carry or borrow
-- cancel.
abbrev pub exact_test : (back is_signed : Bool) → ℕ → Expr → Expr → Expr
exact_test back is_signed size a i =
    Bin binary.Eq (Bin binary.Add (High is_signed (Const size) i)
    (if back then Bin binary.LtU a (shifted back size a i) else Bin binary.LtU (shifted back size a i) a)) (Const 0)

-- the ends of the limits of the local x
abbrev pub base_at : ℕ → Base → Expr
base_at x bases.Own = Local x
base_at x (bases.Local y) = Local y
base_at x (bases.Fixed a) = Const a

abbrev pub amount_at : Option Variable → ℤ → Expr
amount_at None add = Const (word_of add)
amount_at (Some v) add = at_offset (word_of add) (Local v.local)

abbrev pub end_at : ℕ → ℕ → LimitsEnd → Expr
end_at x size e = shifted false size (base_at x e.base) (amount_at e.variable e.add)

-- the place of an access to a static object
abbrev pub static_place : Access → source.Expr → ℕ
static_place access (source.Number a) = place_in a access.offset
static_place access _ = 0

-- an end of the range of a static pointer, which is read from memory again
abbrev pub counted_end : Bool → ℕ → Count → Expr → Expr
counted_end upper size (counts.Fixed n) e = if upper then shifted false size e (Const (word_of n)) else e
counted_end upper size (counts.Member offset form add) e = Const 0

-- An end of the range of a pointer, the upper one if the flag says so: of a local with limits, of a named array, of a
-- static pointer, or of the address of a static object. Pointer arithmetic keeps it.
abbrev pub range_end : Bool → source.Expr → Expr
range_end upper (source.Limited x limits) = end_at x limits.to.size (if upper then limits.upper else limits.lower)
range_end upper (source.Array at bytes) = Const (if upper then at + bytes else at)
range_end upper (source.Member to count access p i) =
    counted_end upper to.size count (Load width.Word (Const (static_place access p)))
range_end upper (source.Address bytes access p i) =
    Const (if upper then static_place access p + bytes else static_place access p)
range_end upper (source.Moved shift p i) = range_end upper p
range_end upper (source.Added shift i p) = range_end upper p
range_end upper _ = Const 0

abbrev pub range_test : Bool → source.Expr → Expr → Expr
range_test last p a = Bin binary.And (below_or_at (range_end false p) a) (upper_test last a (range_end true p))

-- the same for a range in the two temporaries after the address
abbrev pub held_test : Bool → ℕ → Expr
held_test last t =
    Bin binary.And (below_or_at (Local (t + 1)) (Local t))
    (upper_test last (Bin binary.Sub (Local t) (Local (t + 1))) (Local (t + 2)))

abbrev pub bounds_test : Bool → source.Expr → ℕ → Expr
bounds_test last p t = if is_ranged p then range_test last p (Local t) else held_test last t

-- the temporary that an index may go to
abbrev pub index_in : Access → source.Expr → ℕ → ℕ
index_in access p t = t + index_far (takes_range access.through p)

-- how many bytes so many elements have that a member says, of the structure whose begin is in the temporary u
abbrev pub length_at : ℕ → Count → ℕ → Expr
length_at size (counts.Fixed n) u = Const (applied binary.Mul size (word_of n))
length_at size (counts.Member offset form add) u =
    scaled size (at_offset (word_of add) (Load (width_of form) (at_offset offset (Local u))))

-- how many bytes of its range lie after the pointer in t
abbrev pub bytes_left : ℕ → Expr
bytes_left t = Bin binary.Sub (Local (t + 2)) (Bin binary.Sub (Local t) (Local (t + 1)))

-- whether so many bytes lie there, of which the count is not negative
abbrev pub bytes_fit : Integer → Expr → ℕ → Expr
bytes_fit integer.Int k t = Bin binary.And (Bin binary.LtU k (Const 2147483648)) (below_or_at k (bytes_left t))
bytes_fit _ k t = below_or_at k (bytes_left t)

-- Whether so many elements of a size lie there. A negative count is 2^31 at least as a word: so many elements of two
-- bytes or more lie in no range.
abbrev pub elements_fit : ℕ → Integer → Expr → ℕ → Expr
elements_fit size form k t =
    if size == 1 then bytes_fit form k t else below_or_at k (Bin binary.DivU (bytes_left t) (Const size))

-- Whether the bounds of a cast lie in the range of the pointer in t: the pointer is not below it, and so many elements
-- of a size after the pointer are not above it.
abbrev pub cast_test : ℕ → Integer → Expr → ℕ → Expr
cast_test size form k t = Bin binary.And (held_test true t) (elements_fit size form k t)

-- whether the element in the temporary t is not at the upper bound of its pointer
abbrev pub below_end : source.Expr → ℕ → Expr
below_end p t =
    if is_ranged p then Bin binary.Ne (Local t) (range_end true p)
    else Bin binary.Ne (Bin binary.Sub (Local t) (Local (t + 1))) (Local (t + 2))

-- ---- pointers whose range is a count of elements behind the pointer itself

-- limits from the pointer itself to a count of elements of a size
abbrev pub are_counted : ℕ → Limits → Bool
are_counted size limits =
    (limits.to.size == size) && (is_fixed_end limits.lower (pos 0) && is_own limits.upper.base)

-- an array that is not at address 0, has whole elements of a size, and ends below 2^31
abbrev pub is_whole : (size at bytes : ℕ) → Bool
is_whole size at bytes =
    (not (at == 0) && not (size == 0)) && (bytes % size == 0 && nat_lt (at + bytes) 2147483648)

-- a pointer that is a local with such limits, or such a named array
abbrev pub is_counted : ℕ → source.Expr → Bool
is_counted size (source.Limited x limits) = are_counted size limits
is_counted size (source.Array at bytes) = is_whole size at bytes
is_counted size _ = false

-- how many elements that are
abbrev pub count_of : ℕ → source.Expr → Expr
count_of size (source.Limited x limits) = amount_at limits.upper.variable limits.upper.add
count_of size (source.Array at bytes) = Const (if size == 0 then 0 else bytes / size)
count_of size _ = Const 0

-- a named array
abbrev pub is_array : source.Expr → Bool
is_array (source.Array at bytes) = true
is_array _ = false
