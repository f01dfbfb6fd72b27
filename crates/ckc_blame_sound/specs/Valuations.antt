-- What the variables and the bases of forms stand for, and what forms do then.
use Rattle.std.specs.Prelude.{◌≡◌, ℕ, suc, true, ℤ, pos, ◌+ℤ◌, ◌*ℤ◌, List, [], ◌∷◌, slice_index, Option, Some}
use Rattle.std.specs.List.{All}
use Rattle.ckc_types.specs.declared.types.CType.{CType}
use Rattle.ckc_linear.specs.declared.forms.Base.{Base}
use Rattle.ckc_linear.specs.declared.forms.Base.TheVariants as base
use Rattle.ckc_linear.specs.declared.forms.Form.{Form}
use Rattle.ckc_linear.specs.Facts.{Satisfies}
use Rattle.ckc_typed.specs.Types.{is_integer}
use Rattle.ckc_bounds.specs.ckc_bounds_points.specs.declared.frame.Local.{Local}
use Rattle.ckc_bounds.specs.ckc_bounds_points.specs.Shown.{Known}
use Rattle.ckc_bounds.specs.ckc_bounds_points.specs.Frames.{local_at}
use Rattle.ckc_bounds.specs.ckc_bounds_views.specs.Parts.{capped}
use Rattle.ckc_source.specs.Words.{exact}
use Rattle.ckc_build_values.specs.Kinds.{integer_of}
use Rattle.ckc_build_values.specs.Names.{address_of}
use Rattle.ckc_blame_sound.specs.Settings.{Setting}
use Rattle.ckc_blame_sound.specs.Values.{number_of, IsNumberOf}

-- the number that each variable of facts and forms stands for, a fresh one too, and the address that each base does
pub record Valuation : Type 0 where
  pub number : ℕ → ℤ
  pub address : Option Base → ℤ

-- the address that a form stands for, which counts elements of a size from its base
abbrev pub form_address : Valuation → ℕ → Form → ℤ
form_address v size f = v.address f.base +ℤ (pos size *ℤ number_of v.number f)

-- Facts are true of the numbers of a valuation.
abbrev pub AreFacts : Valuation → Known → Type 0
AreFacts v facts = All (Satisfies v.number) facts.list

-- A valuation gives variable 0 the number zero, and what a function names what it has if locals have these values: each
-- integer local its number, each pointer that is a local its word, and each static array its address.
pub record IsValuationOf (s : Setting) (locals : List ℕ) (v : Valuation) : Type 0 where
  pub zero : v.number 0 ≡ pos 0
  pub number : (k : ℕ) (l : Local) → local_at s.frame k ≡ Some l → is_integer l.ctype ≡ true
      → v.number (suc k) ≡ exact (integer_of l.ctype) (slice_index locals k)
  pub pointer : (k : ℕ) → v.address (Some (base.Local k)) ≡ pos (slice_index locals k)
  pub array : (k : ℕ) → v.address (Some (base.Array k)) ≡ pos (address_of s.text k)

-- Fresh variables, of which the first is variable x, stand for numbers of their types.
abbrev pub AreNumbersOf : Valuation → ℕ → List CType → Type 0
AreNumbersOf v x [] = Unit {0}
AreNumbersOf v x (t ∷ ts) = IsNumberOf t (v.number x) × AreNumbersOf v (capped x 1) ts
