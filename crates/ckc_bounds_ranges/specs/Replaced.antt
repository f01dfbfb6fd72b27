-- Declared bounds at an assignment or a call: what they name is replaced by what it is there.
use Rattle.std.specs.Prelude.{ℕ, ◌==◌, if◌then◌else◌, pos, List, [], ◌∷◌, Option, None, Some}
use Rattle.ckc_linear.specs.declared.forms.Base.{Base}
use Rattle.ckc_linear.specs.declared.forms.Form.{Form}
use Rattle.ckc_bounds_points.specs.declared.frame.Bounds.{Bounds}
use Rattle.ckc_bounds_points.specs.declared.frame.Bounds.TheVariants as bounds
use Rattle.ckc_bounds_points.specs.Forms.{same_base, sum_of_forms, moved_form, base_form}
use Rattle.ckc_bounds_ranges.specs.declared.replacements.BaseBy.{BaseBy}
use Rattle.ckc_bounds_ranges.specs.declared.replacements.VariableBy.{VariableBy}
use Rattle.ckc_bounds_ranges.specs.declared.containment.Ends.{Ends}

-- the place that stands for a base, if it has one
abbrev pub place_for : List BaseBy → Base → Option Form
place_for [] b = Some (base_form b)
place_for (r ∷ rest) b = if same_base (Some r.base) (Some b) then r.by else place_for rest b

-- what stands for the base of a form, if it has one
abbrev pub base_replaced : List BaseBy → Option Base → Option Form
base_replaced bases None = Some (record { base = None; var = 0; add = pos 0 })
base_replaced bases (Some b) = place_for bases b

-- the form that stands for a variable, if it has one
abbrev pub variable_replaced : List VariableBy → ℕ → Option Form
variable_replaced [] x = Some (record { base = None; var = x; add = pos 0 })
variable_replaced (r ∷ rest) x = if r.var == x then r.by else variable_replaced rest x

-- A form with its base and its variable replaced: at `p = q + 1` with `p : count(n)`, the upper bound p + n is q + 1 + n.
-- It is none if what stands for one of them is none, or if it would have two variables.
abbrev pub replaced : List BaseBy → List VariableBy → Form → Option Form
replaced bases variables f = moved_form (sum_of_forms (base_replaced bases f.base) (variable_replaced variables f.var)) f.add

-- a lower and an upper end, if both have a form
abbrev pub both_ends : Option Form → Option Form → Option Ends
both_ends (Some f) (Some g) = Some (record { low = f; high = g })
both_ends (Some f) None = None
both_ends None g = None

-- Known bounds with what they name replaced, if both ends then have a form.
abbrev pub replaced_bounds : List BaseBy → List VariableBy → Bounds → Option Ends
replaced_bounds bases variables bounds.Unknown = None
replaced_bounds bases variables (bounds.Known low high) = both_ends (replaced bases variables low) (replaced bases variables high)
