-- Words that are what forms stand for.
use Rattle.std.specs.Prelude.{◌≡◌, ℕ, ℤ, List}
use Rattle.ckc_types.specs.declared.types.CType.{CType}
use Rattle.ckc_linear.specs.declared.forms.Form.{Form}
use Rattle.ckc_bounds.specs.ckc_bounds_points.specs.declared.frame.Frame.{Frame}
use Rattle.ckc_source.specs.Words.{exact}
use Rattle.ckc_build_values.specs.Kinds.{integer_of}
use Rattle.ckc_blame_sound.specs.Values.{value, number_of, IsWordOf}

-- A word of an integer type is exactly the integer that a form stands for, by the numbers of variables.
pub record IsExactBy (numbers : ℕ → ℤ) (t : CType) (f : Form) (n : ℕ) : Type 0 where
  pub word : IsWordOf t n
  pub number : exact (integer_of t) n ≡ number_of numbers f

-- the same by the values of the locals
abbrev pub IsExact : Frame → List ℕ → CType → Form → ℕ → Type 0
IsExact frame locals t f n = IsExactBy (value frame locals) t f n
