-- A form in an integer type stands for a number of that type.
use Rattle.std.proofs.Common.{◌≡◌, refl, ap, ℕ, Bool, true, false, ℤ, arith}
use Rattle.std.specs.Prelude.{◌&&◌, if◌then◌else◌, pos, Option, None, Some}
use Rattle.std.proofs.lemmas.Int.{ints}
use Rattle.ckc_types.specs.declared.types.CType.{CType}
use Rattle.ckc_linear.specs.declared.forms.Form.{Form}
use Rattle.ckc_linear.specs.Facts.{Satisfies}
use Rattle.ckc_bounds.specs.ckc_bounds_known.specs.declared.intervals.Interval.{Interval}
use Rattle.ckc_bounds.specs.ckc_bounds_known.specs.Shown.{Known, is_shown}
use Rattle.ckc_bounds.specs.ckc_bounds_known.specs.Ranges.{range_of, is_small, below, above}
use Rattle.ckc_bounds.specs.ckc_bounds_known.proofs.Reaching.{and_cases}
use Rattle.ckc_bounds.specs.ckc_bounds_points.specs.Forms.{in_type, within_interval}
use Rattle.ckc_blame_sound.specs.Values.{number_of, IsBetween, IsNumberOf}
use Rattle.ckc_blame_sound.proofs.Facts.{Hold, shown_true}

module _ (value : ℕ → ℤ) (zero_is : value 0 ≡ pos 0) (facts : Known) (all : Hold value facts.list) where
  some_same : {A : Type 0} (a b : A) → ◌≡◌ {A = Option A} (Some a) (Some b) → a ≡ b
  some_same a b e = cc

  between : (f g : Form) (r : Option Interval) → within_interval facts f r ≡ Some g → (f ≡ g) × IsBetween r (number_of value f)
  between f g None e = absurd (cc)
  between f g (Some r) e = by (is_small f.add && (is_shown facts (below f r) && is_shown facts (above f r))) refl e
    where
      by : (b : Bool) → (is_small f.add && (is_shown facts (below f r) && is_shown facts (above f r))) ≡ b
          → ◌≡◌ {A = Option Form} (if b then Some f else None) (Some g) → (f ≡ g) × IsBetween (Some r) (number_of value f)
      by true t e =
          let a = and_cases (is_small f.add) (is_shown facts (below f r) && is_shown facts (above f r)) t in
          let b = and_cases (is_shown facts (below f r)) (is_shown facts (above f r)) a.1 in
          let high : Satisfies value (below f r) = shown_true facts value (below f r) all b.0 in
          let low : Satisfies value (above f r) = shown_true facts value (above f r) all b.1 in
          (some_same f g e, (omega (arith, ints), omega (arith, ints)))
      by false t e = absurd (cc)

  pub number_in_type : (t : CType) (form : Option Form) (g : Form) → in_type facts t form ≡ Some g → (form ≡ Some g) × IsNumberOf t (number_of value g)
  number_in_type t None g e = absurd (cc)
  number_in_type t (Some f) g e =
      let h = between f g (range_of t) e in
      (ap Some h.0, rw (← h.0) h.1)
