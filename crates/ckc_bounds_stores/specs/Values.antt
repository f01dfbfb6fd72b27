-- What a pointer becomes, and whether the bounds that it must have contain it (Checked C specification 0.9, section 4.2).
use Rattle.std.specs.Prelude.{ℕ, Bool, false, not, ◌&&◌, if◌then◌else◌, negsuc, List, [], Some}
use Rattle.ckc_types.specs.declared.types.CType.{CType}
use Rattle.ckc_typed.specs.Conversions.{is_terminated_kind}
use Rattle.ckc_typed.specs.declared.typed.Range.{Range}
use Rattle.ckc_typed.specs.declared.typed.Range.TheVariants as range
use Rattle.ckc_typed.specs.Trees.{NotedExpr}
use Rattle.ckc_typed.specs.Types.{kind_of}
use Rattle.ckc_bounds_points.specs.declared.frame.Bounds.{Bounds}
use Rattle.ckc_bounds_points.specs.declared.frame.Frame.{Frame}
use Rattle.ckc_bounds_points.specs.Shown.{Known, known}
use Rattle.ckc_bounds_points.specs.Flow.{State}
use Rattle.ckc_bounds_points.specs.Forms.{moved_form}
use Rattle.ckc_bounds_ranges.specs.declared.replacements.BaseBy.{BaseBy}
use Rattle.ckc_bounds_ranges.specs.declared.replacements.VariableBy.{VariableBy}
use Rattle.ckc_bounds_ranges.specs.Replaced.{replaced_bounds}
use Rattle.ckc_bounds_ranges.specs.Contained.{is_contained}
use Rattle.ckc_bounds_ranges.specs.Rows.{range_moved, range_of_local}
use Rattle.ckc_bounds_views.specs.Parts.{capped}
use Rattle.ckc_bounds_views.specs.Fresh.{with_types}
use Rattle.ckc_bounds_views.specs.Judged.{extended_by}
use Rattle.ckc_bounds_views.specs.Views.{view}
use Rattle.ckc_bounds_stores.specs.declared.values.Numbered.{Numbered}
use Rattle.ckc_bounds_stores.specs.declared.values.Value as values

-- A new value: whether it is null, its range, and the facts that its containment is judged by.
pub record Value : Type 0 where
  pub null : Bool
  pub range : Range
  pub facts : Known

-- a new value, from the record of it that the compiler keeps
abbrev pub value : values.Value → Value
value v = record { null = v.null; range = v.range; facts = known v.facts }

-- the point without its widenings
abbrev pub narrow : State → State
narrow at = record at { widened = [] }

-- a range that ends one element earlier
abbrev pub one_less : Range → Range
one_less (range.Known low high) = range_moved low (moved_form (Some high) (negsuc 0))
one_less r = r

-- `calloc` to an `_Nt_array_ptr` gives one element less, since the last one stays zero.
abbrev pub received_range : CType → Bool → Range → Range
received_range t allocates r = if allocates && is_terminated_kind (kind_of t) then one_less r else r

-- whether there is an element for certain: a `calloc` of none gives null, which needs none
abbrev pub has_element : CType → Bool → Bool
has_element t allocates = allocates && not (is_terminated_kind (kind_of t))

-- the range of an expression whose value goes to a place of type t
abbrev pub range_received : Frame → CType → NotedExpr → Numbered → State → Range
range_received frame t e n at = received_range t (view frame e).allocates ((view frame e).range n.value n.fresh at)

-- An expression whose value goes to a place of type t: its own values and fresh variables are numbered from n on. Its
-- range and the types of its fresh variables make more known beside the facts of the point, for its own containment alone;
-- there its upper end counts as it is without widening where it is to be no less than the lower one.
unfoldable pub new_value : Frame → CType → NotedExpr → Numbered → State → Value
new_value frame t e n at = record {
  null = (view frame e).null;
  range = range_received frame t e n at;
  facts = extended_by (range_received frame t e n at) (range_received frame t e n (narrow at)) (has_element t (view frame e).allocates)
      (with_types (capped n.fresh 1) ((view frame e).fresh at) at.facts);
}

-- a local pointer that keeps its value
unfoldable pub same_value : Frame → ℕ → State → Value
same_value frame k at = record {
  null = false;
  range = range_of_local frame k at.widened;
  facts = extended_by (range_of_local frame k at.widened) (range_of_local frame k []) false at.facts;
}

-- Whether bounds contain a value once what they name is replaced.
unfoldable pub holds : Value → Bounds → List BaseBy → List VariableBy → Bool
holds v limits bases variables = is_contained v.facts limits v.null v.range (replaced_bounds bases variables limits)
