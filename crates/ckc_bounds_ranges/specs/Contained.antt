-- Whether the bounds that a pointer must have lie in the range that its new value has.
use Rattle.std.specs.Prelude.{Bool, true, false, ◌&&◌, if◌then◌else◌, pos, ◌+ℤ◌, ◌-ℤ◌, Option, None, Some}
use Rattle.ckc_linear.specs.declared.facts.Fact.{Fact}
use Rattle.ckc_linear.specs.declared.forms.Form.{Form}
use Rattle.ckc_typed.specs.declared.typed.Range.{Range}
use Rattle.ckc_typed.specs.declared.typed.Range.TheVariants as range
use Rattle.ckc_bounds_points.specs.declared.frame.Bounds.{Bounds}
use Rattle.ckc_bounds_points.specs.declared.frame.Bounds.TheVariants as bounds
use Rattle.ckc_bounds_points.specs.Shown.{Known, is_shown}
use Rattle.ckc_bounds_points.specs.Flow.{with_fact}
use Rattle.ckc_bounds_points.specs.Forms.{is_small, same_base, at_most, with_most, with_less}
use Rattle.ckc_bounds_ranges.specs.declared.containment.Ends.{Ends}

-- `f <= g`, of forms with one base
abbrev pub is_at_most : Known → Form → Form → Bool
is_at_most facts f g =
    same_base f.base g.base && ((is_small f.add && is_small g.add) && is_shown facts (at_most f g))

-- `f <= g + 16,777,216`
abbrev pub at_most_far : Form → Form → Fact
at_most_far f g = record { x = f.var; y = g.var; c = (g.add -ℤ f.add) +ℤ pos 16777216 }

-- the facts with `f <= g + 16,777,216`
abbrev pub with_far : Form → Form → Known → Known
with_far f g facts = if is_small f.add && is_small g.add then with_fact (at_most_far f g) facts else facts

-- of what `calloc` gives to other than an `_Nt_array_ptr`, that there is an element
abbrev pub with_element : Bool → Ends → Known → Known
with_element false r facts = facts
with_element true r facts = with_less r.low r.high facts

-- What also holds of a range (l, u) whose upper end was `before` without widening: l <= before, u - l <= 16,777,216, and
-- l + 1 <= u of an allocation. They are known if l and u have one base, for this judgement alone.
abbrev pub extended : Ends → Form → Bool → Known → Known
extended r before allocated facts =
    if same_base r.low.base r.high.base
    then with_element allocated r (with_far r.high r.low (with_most r.low before facts))
    else facts

-- All four are forms with one base, and l <= l', l' <= u' and u' <= u follow from the facts.
abbrev pub lies_between : Known → Ends → Option Ends → Bool
lies_between facts r None = false
lies_between facts r (Some d) = is_at_most facts r.low d.low && (is_at_most facts d.low d.high && is_at_most facts d.high r.high)

-- Of which the new value is null, or the range known: the limits are those that the pointer must have, with what they name
-- replaced. Bounds that are unknown contain nothing, so any range will do.
abbrev pub is_contained : Known → Bounds → Bool → Range → Option Ends → Bool
is_contained facts bounds.Unknown null r limits = true
is_contained facts (bounds.Known low high) true r limits = true
is_contained facts (bounds.Known low high) false (range.Known l u) limits = lies_between facts (record { low = l; high = u }) limits
is_contained facts (bounds.Known low high) false _ limits = false
