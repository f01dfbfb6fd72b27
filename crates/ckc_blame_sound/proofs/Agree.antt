-- Facts that name integer locals alone are true of each valuation of the locals.
use Rattle.std.proofs.Common.{◌≡◌, ℕ, zero, suc, refl, sym, ◌∙◌, List, [], ◌∷◌, arith}
use Rattle.std.specs.Prelude.{Option, None, Some}
use Rattle.std.specs.List.{All}
use Rattle.std.proofs.lemmas.Int.{ints}
use Rattle.std.proofs.lemmas.List.Elements.{All-nil, All-cons, All-head, All-tail}
use Rattle.ckc_linear.specs.declared.facts.Fact.{Fact}
use Rattle.ckc_linear.specs.Facts.{Satisfies}
use Rattle.ckc_bounds.specs.ckc_bounds_points.specs.declared.frame.Local.{Local}
use Rattle.ckc_bounds.specs.ckc_bounds_points.specs.Frames.{local_at}
use Rattle.ckc_blame_sound.specs.Settings.{Setting}
use Rattle.ckc_blame_sound.specs.Values.{value, IsIntegerLocal, IsInteger, NamesIntegers}
use Rattle.ckc_blame_sound.specs.Valuations.{Valuation, IsValuationOf}
use Rattle.ckc_blame_sound.proofs.Ends.{number_there}

module _ (s : Setting) (locals : List ℕ) (v : Valuation) (are : IsValuationOf s locals v) where
  local_is : (k : ℕ) (o : Option Local) → local_at s.frame k ≡ o → IsIntegerLocal o → v.number (suc k) ≡ value s.frame locals (suc k)
  local_is k None there h = absurd h
  local_is k (Some l) there h = are.number k l there h ∙ sym (number_there s locals k l there h)

  variable_is : (x : ℕ) → IsInteger s.frame x → v.number x ≡ value s.frame locals x
  variable_is zero h = are.zero
  variable_is (suc k) h = local_is k (local_at s.frame k) refl h

  pub facts_agree : (fs : List Fact) → All (NamesIntegers s.frame) fs → All (Satisfies (value s.frame locals)) fs → All (Satisfies v.number) fs
  facts_agree [] names h = All-nil (Satisfies v.number)
  facts_agree (f ∷ fs) names h =
      let named = All-head (NamesIntegers s.frame) f fs names in
      let x = variable_is f.x named.0 in
      let y = variable_is f.y named.1 in
      let one : Satisfies (value s.frame locals) f = All-head (Satisfies (value s.frame locals)) f fs h in
      All-cons (Satisfies v.number) f fs (omega (arith, ints))
      (facts_agree fs (All-tail (NamesIntegers s.frame) f fs names) (All-tail (Satisfies (value s.frame locals)) f fs h))
