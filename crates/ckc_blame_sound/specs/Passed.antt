-- What the arguments of a call give to its parameters.
use Rattle.std.specs.Prelude.{◌≡◌, ◌≢◌, ◌⊎◌, ℕ, ◌<◌, true, false, List, [], ◌∷◌, length, slice_get, slice_index, Option, None, Some}
use Rattle.ckc_typed.specs.Types.{is_pointer, element_of}
use Rattle.ckc_linear.specs.declared.forms.Base.{Base}
use Rattle.ckc_linear.specs.declared.forms.Base.TheVariants as base
use Rattle.ckc_linear.specs.declared.forms.Form.{Form}
use Rattle.ckc_bounds.specs.ckc_bounds_points.specs.declared.frame.Bounds.TheVariants as bounds
use Rattle.ckc_bounds.specs.ckc_bounds_points.specs.declared.frame.Local.{Local}
use Rattle.ckc_bounds.specs.ckc_bounds_points.specs.Frames.{local_at}
use Rattle.ckc_bounds.specs.ckc_bounds_points.specs.Flow.{State, in_bounds}
use Rattle.ckc_bounds.specs.ckc_bounds_views.specs.Parts.{View, capped, fresh_behind}
use Rattle.ckc_source.specs.declared.expr.Base as ends
use Rattle.ckc_source.specs.declared.expr.Base.TheVariants as lies
use Rattle.ckc_source.specs.declared.expr.End.{End}
use Rattle.ckc_source.specs.declared.expr.Limits.{Limits}
use Rattle.ckc_source.specs.Eval.{Store}
use Rattle.ckc_build_values.specs.Ends.{end_behind, limits_between, variable_at}
use Rattle.ckc_build_values.specs.Names.{address_of}
use Rattle.ckc_blame_sound.specs.Settings.{Setting}
use Rattle.ckc_blame_sound.specs.Valuations.{Valuation, AreNumbersOf}
use Rattle.ckc_blame_sound.specs.Containment.{Memory, IsRanged}
use Rattle.ckc_blame_sound.specs.Ends.{IsBase, IsCounted}
use Rattle.ckc_blame_sound.specs.GivenValues.{memory_of}

-- What is known of the word n that an argument gives to a parameter: it is null if the argument is; it may be read
-- within the range of the argument; and if it is not null, fresh variables stand for numbers of their types.
pub record IsNewArgument (m : Memory) (v : Valuation) (e : View) (first fresh : ℕ) (at : State) (n : ℕ) : Type 0 where
  pub null : e.null ≡ true → n ≡ 0
  pub ranged : IsRanged m v n (e.range first fresh at) (e.range first fresh (record at { widened = [] })) false
  pub numbers : n ≢ 0 → AreNumbersOf v (capped fresh 1) (e.fresh at)

-- the same, if there is such a parameter
abbrev pub IsNewArgumentIf : Setting → Store → Valuation → Option Local → View → ℕ → ℕ → State → ℕ → Type 0
IsNewArgumentIf s store v None e first fresh at n = Unit {0}
IsNewArgumentIf s store v (Some p) e first fresh at n = IsNewArgument (memory_of s store p.ctype) v e first fresh at n

-- this of the arguments of the parameters from number k on
abbrev pub AreNewArguments : Setting → Store → Valuation → List Local → List ℕ → State → ℕ → ℕ → ℕ → List View → Type 0
AreNewArguments s store v params entry at k first fresh [] = Unit {0}
AreNewArguments s store v params entry at k first fresh (e ∷ es) =
    IsNewArgumentIf s store v (slice_get params k) e first fresh at (slice_index entry k)
    × AreNewArguments s store v params entry at (capped k 1) (capped first e.values) (fresh_behind e fresh at) es

-- A body that is not checked sees an interface as an unchecked pointer to the same type, without bounds.
pub record IsUnjudged (p l : Local) : Type 0 where
  pub bounds : l.bounds ≡ bounds.Unknown
  pub passed : is_pointer p.ctype ≡ true
  pub seen : is_pointer l.ctype ≡ true
  pub element : element_of l.ctype ≡ element_of p.ctype

-- Each parameter that a head tells is the local with its number, or an interface that the body does not judge, and the
-- bounds of parameters name parameters.
pub record AreParameters (s : Setting) (params : List Local) : Type 0 where
  pub there : (k : ℕ) (p : Local) → slice_get params k ≡ Some p
      → (l : Local) × (local_at s.frame k ≡ Some l) × ((l ≡ p) ⊎ IsUnjudged p l)
  pub named : (k : ℕ) (p : Local) → slice_get params k ≡ Some p → (j : ℕ) → in_bounds j p.bounds ≡ true
      → j < length params

-- A base of the bounds of a result is the result itself, or a base of the bounds of a local.
abbrev pub IsResultBase : Setting → ℕ → Option Base → Type 0
IsResultBase s size (Some (base.Value k)) = k ≡ 0
IsResultBase s size b = IsBase s size b

-- An end of the bounds of a result lies from such a base, as far as a variable of the bounds of a local says.
pub record IsResultEnd (s : Setting) (size : ℕ) (f : Form) : Type 0 where
  pub base : IsResultBase s size f.base
  pub variable : IsCounted s f.var

-- Both ends of the bounds that a head tells of its result are such ends, and the bounds name parameters.
pub record IsResult (s : Setting) (size : ℕ) (params : List Local) (low high : Form) : Type 0 where
  pub low_end : IsResultEnd s size low
  pub high_end : IsResultEnd s size high
  pub named : (j : ℕ) → in_bounds j (bounds.Known low high) ≡ true → j < length params

-- what a form of the bounds of a result lies at: the result itself, a parameter or a static array
abbrev pub result_base : Setting → Option Base → ends.Base
result_base s (Some (base.Local k)) = lies.Local k
result_base s (Some (base.Array k)) = lies.Fixed (address_of s.text k)
result_base s _ = lies.Own

-- an end of the bounds of a result as a program has it
abbrev pub result_end : Setting → Form → End
result_end s f = end_behind (result_base s f.base) (variable_at s.variables f.var) f.add

-- the bounds of a result as a program has them, from a form up to another
abbrev pub result_between : Setting → Form → Form → Limits
result_between s low high = limits_between s.text.layout s.head.result (result_end s low) (result_end s high)
