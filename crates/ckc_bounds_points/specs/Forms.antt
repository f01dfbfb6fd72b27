-- Forms of integers and of addresses, and the facts that their order is.
use Rattle.std.specs.Prelude.{ℕ, int_div, ◌==◌, Bool, true, false, ◌&&◌, if◌then◌else◌, ℤ, pos, neg_ℤ, ◌+ℤ◌, ◌-ℤ◌, Option, None, Some}
use Rattle.std.specs.Ordering.{int_eq}
use Rattle.ckc_types.specs.declared.types.CType.{CType}
use Rattle.ckc_linear.specs.declared.facts.Fact.{Fact}
use Rattle.ckc_linear.specs.declared.forms.Base.{Base}
use Rattle.ckc_linear.specs.declared.forms.Base.TheVariants as base
use Rattle.ckc_linear.specs.declared.forms.Form.{Form}
use Rattle.ckc_typed.specs.Amounts.{is_multiple}
use Rattle.ckc_bounds_known.specs.declared.intervals.Interval.{Interval}
use Rattle.ckc_bounds_known.specs.Shown.{Known, is_shown}
use Rattle.ckc_bounds_known.specs.Ranges.{range_of, with_fact}
pub use Rattle.ckc_bounds_known.specs.Ranges.{is_small, below, above}

-- the form of a constant
abbrev pub constant_form : ℤ → Form
constant_form n = record { base = None; var = 0; add = n }

-- `f + c`
abbrev pub moved_form : Option Form → ℤ → Option Form
moved_form None c = None
moved_form (Some f) c = if is_small f.add && is_small c then Some (record f { add = f.add +ℤ c }) else None

-- a form, if the facts show that it lies in a range of numbers
abbrev pub within_interval : Known → Form → Option Interval → Option Form
within_interval facts f None = None
within_interval facts f (Some r) =
    if is_small f.add && (is_shown facts (below f r) && is_shown facts (above f r)) then Some f else None

-- The form of a value in an integer type, if the facts entail that the exact one lies in the type's range: `n - 1` is
-- a form of `int` if they show -2,147,483,648 <= n - 1, and no form without that.
abbrev pub in_type : Known → CType → Option Form → Option Form
in_type facts t None = None
in_type facts t (Some f) = within_interval facts f (range_of t)

-- `p + k`: at most one of the two has a variable.
abbrev pub sum_of_forms : Option Form → Option Form → Option Form
sum_of_forms None g = None
sum_of_forms (Some f) None = None
sum_of_forms (Some f) (Some g) =
    if g.var == 0 then moved_form (Some f) g.add
    else (if f.var == 0 then moved_form (Some (record f { var = g.var })) g.add else None)

-- `-k` of a constant; a form with a variable has no negative
abbrev pub negative_form : Form → Option Form
negative_form g = if (g.var == 0) && is_small g.add then Some (constant_form (neg_ℤ g.add)) else None

-- the same of a form that there may be
abbrev pub negative_of : Option Form → Option Form
negative_of None = None
negative_of (Some g) = negative_form g

-- `p - k`: k has no variable.
abbrev pub difference_of_forms : Option Form → Option Form → Option Form
difference_of_forms f g = sum_of_forms f (negative_of g)

-- the form of the place where a base begins
abbrev pub base_form : Base → Form
base_form b = record { base = Some b; var = 0; add = pos 0 }

-- whether two bases are the same
abbrev pub same_base : Option Base → Option Base → Bool
same_base None None = true
same_base (Some (base.Local j)) (Some (base.Local k)) = j == k
same_base (Some (base.Array j)) (Some (base.Array k)) = j == k
same_base (Some (base.Value j)) (Some (base.Value k)) = j == k
same_base _ _ = false

-- whether two forms are the same
abbrev pub same_form : Form → Form → Bool
same_form f g = same_base f.base g.base && ((f.var == g.var) && int_eq f.add g.add)

-- x <= y, of forms with one base or none
abbrev pub at_most : Form → Form → Fact
at_most x y = record { x = x.var; y = y.var; c = y.add -ℤ x.add }

-- x < y
abbrev pub at_less : Form → Form → Fact
at_less x y = record { x = x.var; y = y.var; c = (y.add -ℤ x.add) -ℤ pos 1 }

-- the facts with x <= y
abbrev pub with_most : Form → Form → Known → Known
with_most x y facts = if is_small x.add && is_small y.add then with_fact (at_most x y) facts else facts

-- the facts with x < y
abbrev pub with_less : Form → Form → Known → Known
with_less x y facts = if is_small x.add && is_small y.add then with_fact (at_less x y) facts else facts

-- how many elements a constant number of bytes is, if it is a multiple of their size
abbrev pub elements_of : ℕ → Form → Option Form
elements_of size f =
    if (f.var == 0) && is_multiple f.add size then Some (constant_form (int_div f.add (pos size))) else None

-- how many elements so many bytes are
abbrev pub elements : ℕ → Option Form → Option Form
elements size None = None
elements size (Some f) = if size == 1 then Some f else elements_of size f
