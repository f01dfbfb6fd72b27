-- Expressions whose loads have offsets, as they are lowered: a small number that an address adds is the offset of the
-- load. They mirror the code and need not be believed.
use Rattle.std.specs.Prelude.{ℕ, ◌+◌, ◌%◌, ◌^◌, ◌==◌, nat_lt, if◌then◌else◌, Bool}
use Rattle.ckc_base.specs.declared.arithmetic.BinOp.{BinOp}
use Rattle.ckc_base.specs.declared.arithmetic.BinOp.TheVariants as binary
use Rattle.ckc_base.specs.declared.arithmetic.Width.{Width}
use Rattle.ckc_core.specs.Code.{Expr}
use Rattle.ckc_core.specs.Code as core

pub data Term : Type 0 where
  Const : (number : ℕ) → Term
  Local : (local : ℕ) → Term
  Load : (width : Width) (address : Term) (offset : ℕ) → Term
  Bin : (op : BinOp) (left right : Term) → Term
  High : (is_signed : Bool) (left right : Term) → Term

-- a word whose signed view is from -2,048 to 2,047
abbrev pub is_near : ℕ → Bool
is_near n = nat_lt ((n + 2048) % 2 ^ 32) 4096

-- a small number, or 0
abbrev pub small_of : Term → ℕ
small_of (Const n) = if is_near n then n else 0
small_of x = 0

-- the small number that an operation adds, or 0
abbrev pub near_in : BinOp → Term → ℕ
near_in binary.Add q = small_of q
near_in o q = 0

-- the offset of an address, and what is left of it
abbrev pub offset_of : Term → ℕ
offset_of (Bin o p q) = near_in o q
offset_of x = 0

abbrev pub base_of : Term → Term
base_of (Bin o p q) = if near_in o q == 0 then Bin o p q else p
base_of x = x

abbrev pub term_of : Expr → Term
term_of (core.Const n) = Const n
term_of (core.Local x) = Local x
term_of (core.Load width a) = Load width (base_of (term_of a)) (offset_of (term_of a))
term_of (core.Bin o p q) = Bin o (term_of p) (term_of q)
term_of (core.High is_signed p q) = High is_signed (term_of p) (term_of q)
