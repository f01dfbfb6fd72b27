-- The ranges of pointers that do not come from the ranges of their parts (see the table of places and ranges).
use Rattle.std.specs.Prelude.{ℕ, ◌==◌, ◌-◌, Bool, if◌then◌else◌, pos, List, Option, None, Some}
use Rattle.std.specs.List.{list_any}
use Rattle.ckc_linear.specs.declared.forms.Base.{Base}
use Rattle.ckc_linear.specs.declared.forms.Base.TheVariants as base
use Rattle.ckc_linear.specs.declared.forms.Form.{Form}
use Rattle.ckc_typed.specs.declared.typed.Range.{Range}
use Rattle.ckc_typed.specs.declared.typed.Range.TheVariants as range
use Rattle.ckc_typed.specs.declared.typed.StaticObject.{StaticObject}
use Rattle.ckc_bounds_points.specs.declared.frame.Bounds.{Bounds}
use Rattle.ckc_bounds_points.specs.declared.frame.Bounds.TheVariants as bounds
use Rattle.ckc_bounds_points.specs.declared.frame.Local.{Local}
use Rattle.ckc_bounds_points.specs.declared.frame.Frame.{Frame}
use Rattle.ckc_bounds_points.specs.Frames.{local_at}
use Rattle.ckc_bounds_points.specs.Forms.{base_form, constant_form, moved_form}
use Rattle.ckc_bounds_ranges.specs.declared.containment.Ends.{Ends}

-- from a base so many elements up: of a string of n bytes (self, self + n), of `count(k)` in a cast (self, self + k)
abbrev pub range_from : Base → Form → Range
range_from b k = range.Known (base_form b) (record k { base = Some b })

-- the range from a lower end to an upper one; it is missing if the upper one has no form
abbrev pub range_moved : Form → Option Form → Range
range_moved low None = range.Missing
range_moved low (Some high) = range.Known low high

-- Unknown bounds give no range.
abbrev pub range_of_bounds : Bounds → Range
range_of_bounds bounds.Unknown = range.Missing
range_of_bounds (bounds.Known low high) = range.Known low high

-- what is left of bounds with what they name replaced: none if an end has no form
abbrev pub range_of_ends : Option Ends → Range
range_of_ends None = range.Missing
range_of_ends (Some r) = range.Known r.low r.high

-- the range of declared bounds with one element more at the end
abbrev pub range_widened : Bounds → Range
range_widened bounds.Unknown = range.Missing
range_widened (bounds.Known low high) = range_moved low (moved_form (Some high) (pos 1))

-- the range of a local pointer, widened or as declared
abbrev pub range_by : Option Local → Bool → Range
range_by None wide = range.Missing
range_by (Some l) wide = if wide then range_widened l.bounds else range_of_bounds l.bounds

-- A local pointer has its declared bounds, with one element more if it is widened.
abbrev pub range_of_local : Frame → ℕ → List ℕ → Range
range_of_local frame k widened = range_by (local_at frame k) (list_any (λ p. p == k) widened)

-- How many elements of an array may be written freely: all of them, but of an `_Nt_checked` one not the last.
abbrev pub readable : StaticObject → ℕ
readable o = if o.terminated then o.count - 1 else o.count

-- A static array of N elements is (a, a + N), an `_Nt_checked` one (a, a + N - 1).
abbrev pub range_of_array : ℕ → StaticObject → Range
range_of_array k o = range_from (base.Array k) (constant_form (pos (readable o)))
