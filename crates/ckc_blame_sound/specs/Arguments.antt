-- What a function is entered with, by what the arguments of the call stand for.
use Rattle.std.specs.Prelude.{◌≡◌, ℕ, true, pos, List, [], ◌∷◌, slice_get, slice_index, Option, None, Some}
use Rattle.ckc_linear.specs.declared.forms.Form.{Form}
use Rattle.ckc_types.specs.declared.types.Structs.{Structs}
use Rattle.ckc_typed.specs.Types.{is_pointer}
use Rattle.ckc_bounds.specs.ckc_bounds_points.specs.declared.frame.Local.{Local}
use Rattle.ckc_bounds.specs.ckc_bounds_points.specs.Shown.{Known}
use Rattle.ckc_bounds.specs.ckc_bounds_points.specs.Forms.{in_type}
use Rattle.ckc_bounds.specs.ckc_bounds_views.specs.Parts.{View, capped}
use Rattle.ckc_source.specs.Words.{exact}
use Rattle.ckc_build_values.specs.Kinds.{integer_of, size_behind}
use Rattle.ckc_blame_sound.specs.Values.{number_of}
use Rattle.ckc_blame_sound.specs.Valuations.{Valuation, form_address}

-- A parameter is entered with a word n: the place of the argument of a pointer is its address, and the form of an
-- argument in the type of the parameter is its number.
pub record IsArgument (structs : Structs) (v : Valuation) (facts : Known) (parameter : Local) (at form : Option Form)
    (n : ℕ) : Type 0 where
  pub address : (f : Form) → is_pointer parameter.ctype ≡ true → at ≡ Some f
      → form_address v (size_behind structs parameter.ctype) f ≡ pos n
  pub number : (f : Form) → in_type facts parameter.ctype form ≡ Some f
      → number_of v.number f ≡ exact (integer_of parameter.ctype) n

-- the same, if there is such a parameter
abbrev pub IsArgumentIf : Structs → Valuation → Known → Option Local → Option Form → Option Form → ℕ → Type 0
IsArgumentIf structs v facts None at form n = Unit {0}
IsArgumentIf structs v facts (Some p) at form n = IsArgument structs v facts p at form n

-- The parameters from number k on are entered with what the arguments stand for, of which the first numbers its values
-- from `first` on.
abbrev pub AreArguments : Structs → Valuation → Known → List Local → List ℕ → ℕ → ℕ → List View → Type 0
AreArguments structs v facts params entry k first [] = Unit {0}
AreArguments structs v facts params entry k first (e ∷ es) =
    IsArgumentIf structs v facts (slice_get params k) (e.place first facts) (e.form facts) (slice_index entry k)
    × AreArguments structs v facts params entry (capped k 1) (capped first e.values) es
