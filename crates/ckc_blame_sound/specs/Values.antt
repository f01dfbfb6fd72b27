-- The numbers that variables and forms stand for if locals have values.
use Rattle.std.specs.Prelude.{◌≡◌, ℕ, zero, suc, true, ◌<◌, ◌^◌, if◌then◌else◌, ℤ, pos, ◌+ℤ◌, ◌≤ℤ◌, List, slice_index, Option, None, Some}
use Rattle.std.specs.List.{All}
use Rattle.ckc_types.specs.declared.types.CType.{CType}
use Rattle.ckc_linear.specs.declared.facts.Fact.{Fact}
use Rattle.ckc_linear.specs.declared.forms.Form.{Form}
use Rattle.ckc_linear.specs.Facts.{Satisfies}
use Rattle.ckc_typed.specs.Types.{is_char, is_integer}
use Rattle.ckc_bounds.specs.ckc_bounds_known.specs.declared.intervals.Interval.{Interval}
use Rattle.ckc_bounds.specs.ckc_bounds_known.specs.Ranges.{range_of}
use Rattle.ckc_bounds.specs.ckc_bounds_points.specs.declared.frame.Local.{Local}
use Rattle.ckc_bounds.specs.ckc_bounds_points.specs.declared.frame.Frame.{Frame}
use Rattle.ckc_bounds.specs.ckc_bounds_points.specs.Shown.{Known}
use Rattle.ckc_bounds.specs.ckc_bounds_points.specs.Frames.{local_at}
use Rattle.ckc_source.specs.Words.{exact}
use Rattle.ckc_build_values.specs.Kinds.{integer_of}

-- what a word in a local stands for: the integer that it is in the type of the local, and 0 if that is no integer type
abbrev pub value_in : Option Local → ℕ → ℤ
value_in (Some l) n = if is_integer l.ctype then exact (integer_of l.ctype) n else pos 0
value_in None n = pos 0

-- The value of a variable of facts: variable 0 is the number zero, and variable k + 1 is local k.
abbrev pub value : Frame → List ℕ → ℕ → ℤ
value frame locals zero = pos 0
value frame locals (suc k) = value_in (local_at frame k) (slice_index locals k)

-- Facts are true of these values of the locals.
abbrev pub AreTrue : Frame → List ℕ → Known → Type 0
AreTrue frame locals facts = All (Satisfies (value frame locals)) facts.list

-- the number that a form without a base stands for
abbrev pub number_of : (ℕ → ℤ) → Form → ℤ
number_of value f = value f.var +ℤ f.add

-- A word that an object of the type may hold: of `char` one byte.
abbrev pub IsWordOf : CType → ℕ → Type 0
IsWordOf t n = n < (if is_char t then 256 else 2 ^ 32)

-- an integer that is in the range of an interval
abbrev pub IsBetween : Option Interval → ℤ → Type 0
IsBetween None z = Unit {0}
IsBetween (Some r) z = (r.low ≤ℤ z) × (z ≤ℤ pos r.high)

-- The integer is a number of an integer type.
abbrev pub IsNumberOf : CType → ℤ → Type 0
IsNumberOf t z = IsBetween (range_of t) z

-- each local holds a word of its type
abbrev pub HoldWords : Frame → List ℕ → Type 0
HoldWords frame locals = (k : ℕ) (l : Local) → local_at frame k ≡ Some l → IsWordOf l.ctype (slice_index locals k)

-- There is such a local, and it is an integer.
abbrev pub IsIntegerLocal : Option Local → Type 0
IsIntegerLocal (Some l) = is_integer l.ctype ≡ true
IsIntegerLocal None = ⊥

-- A variable is the number zero or an integer local.
abbrev pub IsInteger : Frame → ℕ → Type 0
IsInteger frame zero = Unit {0}
IsInteger frame (suc k) = IsIntegerLocal (local_at frame k)

-- A fact names no variable but these.
abbrev pub NamesIntegers : Frame → Fact → Type 0
NamesIntegers frame f = IsInteger frame f.x × IsInteger frame f.y
