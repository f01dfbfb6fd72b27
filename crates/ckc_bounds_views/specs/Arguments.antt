-- What the bounds of a parameter or a result name, at a call: for a pointer the place of its argument, for an integer the
-- form of its argument in its type.
use Rattle.std.specs.Prelude.{ℕ, if◌then◌else◌, Option, None, Some, List, [], ◌∷◌, slice_get}
use Rattle.ckc_linear.specs.declared.forms.Base.TheVariants as base
use Rattle.ckc_linear.specs.declared.forms.Form.{Form}
use Rattle.ckc_typed.specs.Types.{is_pointer}
use Rattle.ckc_bounds_points.specs.declared.frame.Local.{Local}
use Rattle.ckc_bounds_points.specs.Shown.{Known}
use Rattle.ckc_bounds_points.specs.Forms.{in_type, base_form}
use Rattle.ckc_bounds_ranges.specs.declared.replacements.BaseBy.{BaseBy}
use Rattle.ckc_bounds_ranges.specs.declared.replacements.VariableBy.{VariableBy}
use Rattle.ckc_bounds_views.specs.Parts.{View, capped, with_first}

-- what stands for the parameter that the base of bounds is, if it is a pointer
abbrev pub base_by : Option Local → ℕ → Option Form → Option BaseBy
base_by None n f = None
base_by (Some p) n f = if is_pointer p.ctype then Some (record { base = base.Local n; by = f }) else None

-- The places of the arguments that pointers receive. The arguments have the numbers from n, and the first value in them
-- has the number `first`.
abbrev pub bases_by : List Local → ℕ → ℕ → Known → List View → List BaseBy
bases_by params n first facts [] = []
bases_by params n first facts (e ∷ es) =
    with_first (base_by (slice_get params n) n (e.place first facts)) (bases_by params (capped n 1) (capped first e.values) facts es)

-- what replaces a parameter that is an integer: the form of its argument, in the type of the parameter
abbrev pub variable_by : Known → Option Local → ℕ → Option Form → Option VariableBy
variable_by facts None n f = None
variable_by facts (Some p) n f =
    if is_pointer p.ctype then None else Some (record { var = capped n 1; by = in_type facts p.ctype f })

-- the forms of the arguments that integers receive
abbrev pub variables_by : List Local → ℕ → Known → List View → List VariableBy
variables_by params n facts [] = []
variables_by params n facts (e ∷ es) =
    with_first (variable_by facts (slice_get params n) n (e.form facts)) (variables_by params (capped n 1) facts es)

-- In the bounds of a result or an object, value 0 is the value itself.
abbrev pub own_by : ℕ → BaseBy
own_by own = record { base = base.Value 0; by = Some (base_form (base.Value own)) }
