-- The guards of accesses as expressions of core code. They mirror what the code makes and need not be believed.
use Rattle.std.specs.Prelude.{ℕ, ◌+◌, Bool, if◌then◌else◌}
use Rattle.ckc_base.specs.declared.arithmetic.BinOp.TheVariants as binary
use Rattle.ckc_base.specs.declared.arithmetic.Width.{Width}
use Rattle.ckc_base.specs.declared.arithmetic.Width.TheVariants as width
use Rattle.ckc_core.specs.Code.{Expr, Const, Local, Bin}

abbrev pub low_byte : Expr → Expr
low_byte e = Bin binary.And e (Const 255)

-- a value as it is kept in a local or a place of the width, by whether it is a byte already
abbrev pub kept_in : Width → Bool → Expr → Expr
kept_in width.Byte is_byte e = if is_byte then e else low_byte e
kept_in width.Word is_byte e = e

abbrev pub below_or_at : Expr → Expr → Expr
below_or_at a b = Bin binary.Eq (Bin binary.LtU b a) (Const 0)

-- whether an address lies in a range, of which the upper bound counts too if the flag says so
abbrev pub upper_test : Bool → Expr → Expr → Expr
upper_test last a high = if last then below_or_at a high else Bin binary.LtU a high

-- Whether the value in the temporary u may be written to an element of a null-terminated array. The temporary t + 1 says
-- whether the element is below the upper bound of its pointer: at the bound zero alone may be written.
abbrev pub may_write : Width → Bool → (t u : ℕ) → Expr
may_write width is_byte t u = Bin binary.Or (Local (t + 1)) (Bin binary.Eq (kept_in width is_byte (Local u)) (Const 0))
