-- A valuation that says nothing of values and of fresh variables.
use Rattle.std.proofs.Common.{refl, ap, ◌∙◌, ℕ, Bool, List, ℤ}
use Rattle.std.specs.Prelude.{pos, if◌then◌else◌, slice_index, Option, Some}
use Rattle.ckc_linear.specs.declared.forms.Base.{Base}
use Rattle.ckc_linear.specs.declared.forms.Base.TheVariants as base
use Rattle.ckc_blame_sound.specs.ckc_bounds_points.specs.declared.frame.Local.{Local}
use Rattle.ckc_source.specs.Words.{exact}
use Rattle.ckc_build_values.specs.Kinds.{integer_of}
use Rattle.ckc_build_values.specs.Names.{address_of}
use Rattle.ckc_blame_sound.specs.Settings.{Setting}
use Rattle.ckc_blame_sound.specs.Values.{value_in, value}
use Rattle.ckc_blame_sound.specs.Valuations.{Valuation, IsValuationOf}

abbrev address_by : Setting → List ℕ → Option Base → ℤ
address_by s locals (Some (base.Local k)) = pos (slice_index locals k)
address_by s locals (Some (base.Array k)) = pos (address_of s.text k)
address_by s locals b = pos 0

abbrev pub own_valuation : Setting → List ℕ → Valuation
own_valuation s locals = record { number = value s.frame locals; address = address_by s locals }

pub own_values : (s : Setting) (locals : List ℕ) → IsValuationOf s locals (own_valuation s locals)
own_values s locals = record {
  zero = refl;
  number = λ k l there integer.
      ap (λ (o : Option Local). value_in o (slice_index locals k)) there
      ∙ ap (λ (b : Bool). if b then exact (integer_of l.ctype) (slice_index locals k) else pos 0) integer;
  pointer = λ k. refl;
  array = λ k. refl;
}
