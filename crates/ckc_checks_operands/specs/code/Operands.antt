-- Expressions of core code for those of a source program that need no code in front of them. They mirror what the code
-- makes and need not be believed.
use Rattle.std.specs.Prelude.{ℕ, Bool, true, false, not, ◌&&◌, ◌==◌, if◌then◌else◌, Option, Some, None}
use Rattle.ckc_base.specs.declared.arithmetic.BinOp.TheVariants as binary
use Rattle.ckc_base.specs.declared.arithmetic.Width.TheVariants as width
use Rattle.ckc_base.specs.Words.{applied}
use Rattle.ckc_source.specs.declared.expr.Access.{Access}
use Rattle.ckc_source.specs.declared.expr.Through.{Through}
use Rattle.ckc_source.specs.declared.expr.Through.TheVariants.{Named, Raw}
use Rattle.ckc_source.specs.declared.expr.Count.TheVariants as counts
use Rattle.ckc_source.specs.declared.expr.Base.TheVariants as bases
use Rattle.ckc_source.specs.declared.expr.Operation.{Operation}
use Rattle.ckc_source.specs.declared.expr.Operation.TheVariants.{Lt, Le, Gt, Ge}
use Rattle.ckc_source.specs.Code as source
use Rattle.ckc_source.specs.Eval.{place_in}
use Rattle.ckc_source.specs.Words.{operator, divides}
use Rattle.ckc_core.specs.Code.{Expr, Const, Local, Load, Bin}
pub use Rattle.ckc_checks_guards.specs.code.Guards.{low_byte, kept_in}
use Rattle.ckc_checks_operands.specs.Cases.{casts_one}

-- the number that an expression is
abbrev pub number_of : source.Expr → Option ℕ
number_of (source.Number n) = Some n
number_of _ = None

-- whether that is so much
abbrev pub is_this : ℕ → Option ℕ → Bool
is_this k (Some n) = n == k
is_this k None = false

-- an access that has no checks
abbrev pub is_unchecked : Through → Bool
is_unchecked Named = true
is_unchecked Raw = true
is_unchecked _ = false

-- A direct expression is one expression of core code: it has no division, no remainder, no branch and no check.
abbrev pub is_direct : source.Expr → Bool
is_direct (source.Load width access p i) = is_unchecked access.through && (is_direct p && is_direct i)
is_direct (source.Member to count access p i) = is_unchecked access.through && (is_direct p && is_direct i)
is_direct (source.Address bytes access p i) = is_unchecked access.through && (is_direct p && is_direct i)
is_direct (source.Moved shift p i) = not shift.checked && (is_direct p && is_direct i)
is_direct (source.Added shift i p) = not shift.checked && (is_direct i && is_direct p)
is_direct (source.Binary operation is_signed at a b) = not (divides operation) && is_direct a && is_direct b
is_direct (source.And a b) = false
is_direct (source.Or a b) = false
is_direct (source.Choice c a b) = false
is_direct (source.Narrow e) = is_direct e
is_direct (source.Bare p) = is_direct p
is_direct (source.Tested size form at p k) = casts_one size p k && is_direct p
is_direct (source.Trusted to form p k) = is_direct p && is_direct k
is_direct _ = true

-- a > b is b < a, and a <= b holds if a > b does not
abbrev pub operated : Operation → Bool → Expr → Expr → Expr
operated Le is_signed a b = Bin binary.Eq (Bin (operator Lt is_signed) b a) (Const 0)
operated Gt is_signed a b = Bin (operator Lt is_signed) b a
operated Ge is_signed a b = Bin binary.Eq (Bin (operator Lt is_signed) a b) (Const 0)
operated operation is_signed a b = Bin (operator operation is_signed) a b

abbrev pub as_truth : Expr → Expr
as_truth e = Bin binary.Ne e (Const 0)

abbrev pub is_zero : Expr → Bool
is_zero (Const n) = n == 0
is_zero _ = false

-- so many elements of a size
abbrev pub scaled : ℕ → Expr → Expr
scaled size (Const n) = Const (applied binary.Mul size n)
scaled size e = if size == 1 then e else Bin binary.Mul (Const size) e

-- an address so many elements of a size further on, or back
abbrev pub shifted : Bool → ℕ → Expr → Expr → Expr
shifted back size a i = if is_zero i then a else Bin (if back then binary.Sub else binary.Add) a (scaled size i)

-- an address so many bytes further on
abbrev pub at_offset : ℕ → Expr → Expr
at_offset offset (Const n) = Const (place_in n offset)
at_offset offset e = if offset == 0 then e else Bin binary.Add e (Const offset)

-- the element that an access goes to, through a pointer at an index
abbrev pub element_of : Through → ℕ → Expr → Expr → Expr
element_of Raw size a i = shifted false size a i
element_of _ size a i = a

-- the place that an access goes to
abbrev pub place_at : Access → Expr → Expr → Expr
place_at access a i = at_offset access.offset (element_of access.through access.size a i)

-- the core expression of a direct expression
abbrev pub direct : source.Expr → Expr
direct (source.Number n) = Const n
direct (source.Local x) = Local x
direct (source.Limited x limits) = Local x
direct (source.Array at bytes) = Const at
direct (source.Load width access p i) = Load width (place_at access (direct p) (direct i))
direct (source.Member to count access p i) = Load width.Word (place_at access (direct p) (direct i))
direct (source.Address bytes access p i) = place_at access (direct p) (direct i)
direct (source.Moved shift p i) = shifted shift.back shift.size (direct p) (direct i)
direct (source.Added shift i p) = shifted shift.back shift.size (direct p) (direct i)
direct (source.Binary operation is_signed at a b) = operated operation is_signed (direct a) (direct b)
direct (source.Narrow e) = low_byte (direct e)
direct (source.Bare p) = direct p
direct (source.Tested size form at p k) = direct p
direct (source.Trusted to form p k) = direct p
direct _ = Const 0

-- where the value of an expression is: where it stands, or in the temporary t
abbrev pub operand : source.Expr → ℕ → Expr
operand e t = if is_direct e then direct e else Local t

-- an operand that goes to the temporary t in any case, if the flag says so
abbrev pub held : Bool → source.Expr → ℕ → Expr
held always e t = if always then Local t else operand e t

abbrev pub is_number : source.Expr → Bool
is_number (source.Number n) = true
is_number _ = false

-- an index that goes to a temporary in any case, if the flag says so, but for a number
abbrev pub keeps_index : Bool → source.Expr → Bool
keeps_index checked i = checked && not (is_number i)
