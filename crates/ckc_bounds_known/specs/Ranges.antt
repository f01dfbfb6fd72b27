-- The ranges of integer types as facts, and forms that lie in them.
use Rattle.std.specs.Prelude.{ℕ, ◌^◌, nat_lt, Bool, not, ◌&&◌, if◌then◌else◌, [], ◌∷◌, ◌++◌, ℤ, pos, negsuc, neg_ℤ, ◌-ℤ◌, Option, None, Some}
use Rattle.std.specs.List.{filter}
use Rattle.ckc_types.specs.declared.types.CType.{CType, CType-F, out-CType}
use Rattle.ckc_linear.specs.declared.facts.Fact.{Fact}
use Rattle.ckc_linear.specs.declared.forms.Form.{Form}
use Rattle.ckc_linear.specs.Facts.{names}
use Rattle.ckc_bounds_known.specs.declared.intervals.Interval.{Interval}
use Rattle.ckc_bounds_known.specs.Shown.{Known, is_within}

-- the numbers of `int`, `unsigned` and `char`; no other type has any
abbrev pub range_in : {X : Type 0} → CType-F X → Option Interval
range_in CType-F.Int = Some (record { low = negsuc 2147483647; high = 2147483647 })
range_in CType-F.Unsigned = Some (record { low = pos 0; high = 4294967295 })
range_in CType-F.Char = Some (record { low = pos 0; high = 255 })
range_in _ = None

-- the numbers of an integer type
abbrev pub range_of : CType → Option Interval
range_of t = range_in (out-CType t)

-- a fact about variables that there are, with a number within 2^50
abbrev pub fits : ℕ → Fact → Bool
fits vars f = nat_lt f.x vars && (nat_lt f.y vars && is_within (2 ^ 50) f.c)

-- the facts with one more at the end, if it is such a fact
abbrev pub with_fact : Fact → Known → Known
with_fact f facts = if fits facts.vars f then record facts { list = facts.list ++ f ∷ [] } else facts

-- The range of each variable's type always belongs to the facts: of `char c`, that c - 0 <= 255 and 0 - c <= 0.
abbrev pub with_range : ℕ → Option Interval → Known → Known
with_range x None facts = facts
with_range x (Some r) facts = with_fact (record { x = 0; y = x; c = neg_ℤ r.low }) (with_fact (record { x = x; y = 0; c = pos r.high }) facts)

-- the facts without those on x
abbrev pub forgotten : ℕ → Known → Known
forgotten x facts = record facts { list = filter (λ f. not (names x f)) facts.list }

-- The number of an integer form is within 2^42: the 1,000 nodes of a function add at most 2^32 each.
abbrev pub is_small : ℤ → Bool
is_small n = is_within (2 ^ 42) n

-- the fact that a form is at most the greatest number of a range
abbrev pub below : Form → Interval → Fact
below f r = record { x = f.var; y = 0; c = pos r.high -ℤ f.add }

-- the fact that a form is at least the least number of a range
abbrev pub above : Form → Interval → Fact
above f r = record { x = 0; y = f.var; c = f.add -ℤ r.low }
