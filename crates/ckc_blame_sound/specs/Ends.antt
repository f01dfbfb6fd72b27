-- The ends of the bounds of locals, which the judgement and a program read alike.
use Rattle.std.specs.Prelude.{◌≡◌, ℕ, zero, suc, true, Option, Some}
use Rattle.ckc_linear.specs.declared.forms.Base.{Base}
use Rattle.ckc_linear.specs.declared.forms.Base.TheVariants as base
use Rattle.ckc_linear.specs.declared.forms.Form.{Form}
use Rattle.ckc_syntax.specs.declared.tree.Name.TheVariants as name
use Rattle.ckc_typed.specs.Types.{is_integer, is_pointer}
use Rattle.ckc_typed.specs.Environment.{variable_named}
use Rattle.ckc_bounds.specs.ckc_bounds_points.specs.declared.frame.Bounds.{Bounds}
use Rattle.ckc_bounds.specs.ckc_bounds_points.specs.declared.frame.Bounds.TheVariants as bounds
use Rattle.ckc_bounds.specs.ckc_bounds_points.specs.declared.frame.Local.{Local}
use Rattle.ckc_bounds.specs.ckc_bounds_points.specs.Frames.{local_at}
use Rattle.ckc_build_values.specs.Ends.{integer_in_variable}
use Rattle.ckc_build_values.specs.Kinds.{integer_of, size_behind}
use Rattle.ckc_blame_sound.specs.Settings.{Setting}

-- A local is an integer, and a program reads it in its type.
pub record IsCounter (s : Setting) (k : ℕ) : Type 0 where
  pub local : Local
  pub there : local_at s.frame k ≡ Some local
  pub integer : is_integer local.ctype ≡ true
  pub same : integer_in_variable (variable_named s.variables (name.Local k)) ≡ integer_of local.ctype

-- A variable is the number zero or an integer local.
abbrev pub IsCounted : Setting → ℕ → Type 0
IsCounted s zero = Unit {0}
IsCounted s (suc k) = IsCounter s k

-- A local is a pointer to elements of a size.
pub record HasElements (s : Setting) (size k : ℕ) : Type 0 where
  pub local : Local
  pub there : local_at s.frame k ≡ Some local
  pub pointer : is_pointer local.ctype ≡ true
  pub sized : size_behind s.text.layout local.ctype ≡ size

-- A base is a local pointer to elements of a size, or a static array.
abbrev pub IsBase : Setting → ℕ → Option Base → Type 0
IsBase s size (Some (base.Local k)) = HasElements s size k
IsBase s size (Some (base.Array k)) = Unit {0}
IsBase s size _ = ⊥

-- An end of the bounds of a local lies from such a base, as far as such a variable says.
pub record IsEnd (s : Setting) (size : ℕ) (f : Form) : Type 0 where
  pub base : IsBase s size f.base
  pub variable : IsCounted s f.var

-- both ends of bounds that are known
abbrev pub AreEnds : Setting → ℕ → Bounds → Type 0
AreEnds s size bounds.Unknown = Unit {0}
AreEnds s size (bounds.Known low high) = IsEnd s size low × IsEnd s size high

-- The bounds of a local have such ends, by the size of what it points to, and no integer has bounds.
pub record HasEnds (s : Setting) (l : Local) : Type 0 where
  pub ends : AreEnds s (size_behind s.text.layout l.ctype) l.bounds
  pub integer : is_integer l.ctype ≡ true → l.bounds ≡ bounds.Unknown

-- this of each local of a function
abbrev pub HaveEnds : Setting → Type 0
HaveEnds s = (k : ℕ) (l : Local) → local_at s.frame k ≡ Some l → HasEnds s l
