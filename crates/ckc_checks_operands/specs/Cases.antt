-- The forms of a source program that are told apart: casts to one element, and pointers with a range.
use Rattle.std.specs.Prelude.{ℕ, ℤ, pos, Bool, true, false, not, ◌&&◌, ◌==◌, Option, Some, None}
use Rattle.std.specs.Ordering.{int_eq}
use Rattle.ckc_source.specs.declared.expr.Access.{Access}
use Rattle.ckc_source.specs.declared.expr.Through.{Through}
use Rattle.ckc_source.specs.declared.expr.Through.TheVariants.{Named, Array, Terminated}
use Rattle.ckc_source.specs.declared.expr.Count.{Count}
use Rattle.ckc_source.specs.declared.expr.Count.TheVariants as counts
use Rattle.ckc_source.specs.declared.expr.Base.{Base}
use Rattle.ckc_source.specs.declared.expr.Base.TheVariants as bases
use Rattle.ckc_source.specs.declared.expr.End.{End as LimitsEnd}
use Rattle.ckc_source.specs.declared.expr.Limits.{Limits}
use Rattle.ckc_source.specs.declared.expr.Variable.{Variable}
use Rattle.ckc_source.specs.Code as source

-- an access to a static object
abbrev pub is_named : Through → Bool
is_named Named = true
is_named _ = false

-- whether an expression is the number 1
abbrev pub is_one : source.Expr → Bool
is_one (source.Number n) = n == 1
is_one _ = false

-- whether limits are counted from the pointer that they belong to
abbrev pub is_own : Base → Bool
is_own bases.Own = true
is_own _ = false

-- whether an end of limits names no variable
abbrev pub is_absent : Option Variable → Bool
is_absent None = true
is_absent (Some x) = false

-- an end of limits that lies so many elements after the pointer itself
abbrev pub is_fixed_end : LimitsEnd → ℤ → Bool
is_fixed_end e add = is_own e.base && (is_absent e.variable && int_eq e.add add)

-- limits of one element of a size
abbrev pub are_single : ℕ → Limits → Bool
are_single size limits = (limits.to.size == size) && (is_fixed_end limits.lower (pos 0) && is_fixed_end limits.upper (pos 1))

-- whether a count is the constant 1
abbrev pub is_single_count : Count → Bool
is_single_count (counts.Fixed n) = int_eq n (pos 1)
is_single_count (counts.Member offset form add) = false

-- a pointer to one element of a size, or null
abbrev pub is_single : ℕ → source.Expr → Bool
is_single size (source.Number n) = n == 0
is_single size (source.Limited x limits) = are_single size limits
is_single size (source.Member to count access p i) = (to.size == size) && is_single_count count
is_single size (source.Address bytes access p i) = bytes == size
is_single size (source.Tested same form at p k) = (same == size) && is_one k
is_single size (source.Trusted to form p k) = (to.size == size) && is_one k
is_single size _ = false

-- A bounds cast of a pointer to one element, to one element of the same size, has no test.
abbrev pub casts_one : ℕ → (p k : source.Expr) → Bool
casts_one size p k = is_one k && is_single size p

-- a static object at its place
abbrev pub is_static : Access → source.Expr → Bool
is_static access (source.Number a) = is_named access.through
is_static access _ = false

-- whether a count is a constant
abbrev pub is_fixed : Count → Bool
is_fixed (counts.Fixed n) = true
is_fixed (counts.Member offset form add) = false

-- A pointer whose range is computed where it is tested: a local with limits, a named array, a static pointer with a
-- fixed count, the address of a static object, or one of these moved.
abbrev pub is_ranged : source.Expr → Bool
is_ranged (source.Limited x limits) = true
is_ranged (source.Array at bytes) = true
is_ranged (source.Member to count access p i) = is_static access p && is_fixed count
is_ranged (source.Address bytes access p i) = is_static access p
is_ranged (source.Moved shift p i) = shift.checked && is_ranged p
is_ranged (source.Added shift i p) = shift.checked && is_ranged p
is_ranged _ = false

-- an access that is judged by the range of its pointer
abbrev pub is_bounded : Through → Bool
is_bounded Array = true
is_bounded Terminated = true
is_bounded _ = false

-- The range of any other pointer goes to the two temporaries after it: its lower bound, and how many bytes it has.
abbrev pub takes_range : Through → source.Expr → Bool
takes_range through p = is_bounded through && not (is_ranged p)
