-- What replaces the base and the variable of a form.
use Rattle.std.specs.Prelude.{◌≡◌, ℕ, List, Some}
use Rattle.ckc_linear.specs.declared.forms.Form.{Form}
use Rattle.ckc_typed.specs.Types.{is_integer}
use Rattle.ckc_bounds.specs.ckc_bounds_points.specs.declared.frame.Local.{Local}
use Rattle.ckc_bounds.specs.ckc_bounds_points.specs.Frames.{local_at}
use Rattle.ckc_bounds.specs.ckc_bounds_ranges.specs.declared.replacements.BaseBy.{BaseBy}
use Rattle.ckc_bounds.specs.ckc_bounds_ranges.specs.declared.replacements.VariableBy.{VariableBy}
use Rattle.ckc_bounds.specs.ckc_bounds_ranges.specs.Replaced.{base_replaced, variable_replaced}
use Rattle.ckc_blame_sound.specs.Values.{number_of}
use Rattle.ckc_blame_sound.specs.Valuations.{Valuation, form_address}

-- What replaces the base and the variable of a form, if there is something, stands for as much before as they do after.
pub record IsReplaced (bases : List BaseBy) (variables : List VariableBy) (size : ℕ) (before after : Valuation)
    (f : Form) : Type 0 where
  pub base : (g : Form) → base_replaced bases f.base ≡ Some g → form_address before size g ≡ after.address f.base
  pub variable : (g : Form) → variable_replaced variables f.var ≡ Some g
      → number_of before.number g ≡ after.number f.var
