-- Steps from sources to sources.
use Rattle.std.proofs.Common.{◌≡◌, ◌≢◌, ℕ, zero, suc, ◌+◌, ◌≤◌, ◌<◌, nat_lt, if◌then◌else◌, Bool, true, false, List, [], ◌∷◌, length, Option, None, Some, refl, sym, ap, subst, ◌∙◌, arith}
use Rattle.std.proofs.lemmas.Bool.Decides.{nat_tests}
use Rattle.ckc_tac.specs.declared.code.Operand.{Operand}
use Rattle.ckc_tac.specs.declared.code.Operand.TheVariants.{Register, Number}
use Rattle.ckc_passes_copies.specs.Origins.{Writes, earlier, source_of, source, onward, follow, origin}

less_holds : (a b : ℕ) → nat_lt a b ≡ true → a < b
less_holds a b e = grind (arith, nat_tests)

pub less_told : (a b : ℕ) → a < b → nat_lt a b ≡ true
less_told a b h = grind (arith, nat_tests)

-- ---- what a source is

earlier_is : (q s : ℕ) (b : Bool) → earlier q b ≡ Some s → (b ≡ true) × (q ≡ s)
earlier_is q s true e = (refl, cc)
earlier_is q s false e = absurd cc

source_is_by : (at : ℕ → ℕ) (here s : ℕ) (o : Option Operand) → source_of at here o ≡ Some s → (o ≡ Some (Register s)) × (at s < here)
source_is_by at here s (Some (Register q)) e =
    let h = earlier_is q s (nat_lt (at q) here) e in
    (ap (λ r. Some (Register r)) h.1, less_holds (at s) here (ap (λ r. nat_lt (at r) here) (sym h.1) ∙ h.0))
source_is_by at here s (Some (Number n)) e = absurd cc
source_is_by at here s None e = absurd cc

-- a source was copied, and written earlier
pub source_is : (w : Writes) (r s : ℕ) → source w r ≡ Some s → (w.copied r ≡ Some (Register s)) × (w.at s < w.at r)
source_is w r s e = source_is_by w.at (w.at r) s (w.copied r) e

-- and back
pub is_source : (w : Writes) (r s : ℕ) → w.copied r ≡ Some (Register s) → w.at s < w.at r → source w r ≡ Some s
is_source w r s e h = ap (source_of w.at (w.at r)) e ∙ ap (earlier s) (less_told (w.at s) (w.at r) h)

-- ---- enough steps lead to the origin

pub follow_none : (sources : ℕ → Option ℕ) (n r : ℕ) → sources r ≡ None → follow sources n r ≡ r
unfolding follow
follow_none sources zero r e = refl
follow_none sources (suc n) r e = ap (onward (follow sources n) r) e

pub follow_some : (sources : ℕ → Option ℕ) (n r s : ℕ) → sources r ≡ Some s → follow sources (suc n) r ≡ follow sources n s
unfolding follow
follow_some sources n r s e = ap (onward (follow sources n) r) e

module _ (sources : ℕ → Option ℕ) (at : ℕ → ℕ) (falls : (r s : ℕ) → sources r ≡ Some s → at s < at r) where
  first_has_none : (r : ℕ) (o : Option ℕ) → sources r ≡ o → at r ≡ 0 → sources r ≡ None
  first_has_none r (Some s) e z = let h = falls r s e in absurd (omega (arith, z, h))
  first_has_none r None e z = e

  enough_next : (n m r : ℕ) (o : Option ℕ) → sources r ≡ o → at r ≤ suc n → at r ≤ suc m
      → ((s : ℕ) → at s ≤ n → at s ≤ m → follow sources n s ≡ follow sources m s) → follow sources (suc n) r ≡ follow sources (suc m) r
  enough_next n m r (Some s) e h k again =
      let less = falls r s e in
      follow_some sources n r s e ∙ again s (omega (arith, less)) (omega (arith, less)) ∙ sym (follow_some sources m r s e)
  enough_next n m r None e h k again = follow_none sources (suc n) r e ∙ sym (follow_none sources (suc m) r e)

  enough : (n m r : ℕ) → at r ≤ n → at r ≤ m → follow sources n r ≡ follow sources m r
  enough zero m r h k =
      let none = first_has_none r (sources r) refl (omega arith) in
      follow_none sources 0 r none ∙ sym (follow_none sources m r none)
  enough (suc n) zero r h k =
      let none = first_has_none r (sources r) refl (omega arith) in
      follow_none sources (suc n) r none ∙ sym (follow_none sources 0 r none)
  enough (suc n) (suc m) r h k = enough_next n m r (sources r) refl h k (λ s. enough n m s)

falls_of : (w : Writes) (r s : ℕ) → source w r ≡ Some s → w.at s < w.at r
falls_of w r s e = (source_is w r s e).1

-- the origin of a register is that of its source
pub origin_onward : (w : Writes) (r s : ℕ) → source w r ≡ Some s → origin w s ≡ origin w r
origin_onward w r s e = by (w.at r) refl
  where
    by : (n : ℕ) → w.at r ≡ n → origin w s ≡ origin w r
    by zero z = let h = falls_of w r s e in absurd (omega (arith, z, h))
    by (suc n) z =
        let h = falls_of w r s e in
        enough (source w) w.at (falls_of w) (w.at s) n s (omega arith) (omega (arith, z, h))
        ∙ sym (follow_some (source w) n r s e) ∙ ap (λ k. follow (source w) k r) (sym z)

-- and the register itself if it has none
pub origin_itself : (w : Writes) (r : ℕ) → source w r ≡ None → origin w r ≡ r
origin_itself w r e = follow_none (source w) (w.at r) r e

-- ---- what each source shares with its register the origin shares with it

module _ {X : Type 0} (w : Writes) (x : ℕ → X) (h : (r s : ℕ) → source w r ≡ Some s → x s ≡ x r) where
  shares_next : (n q : ℕ) (o : Option ℕ) → source w q ≡ o → ((s : ℕ) → x (follow (source w) n s) ≡ x s) → x (follow (source w) (suc n) q) ≡ x q
  shares_next n q (Some s) e again = ap x (follow_some (source w) n q s e) ∙ again s ∙ h q s e
  shares_next n q None e again = ap x (follow_none (source w) (suc n) q e)

  shares : (n q : ℕ) → x (follow (source w) n q) ≡ x q
  unfolding follow
  shares zero q = refl
  shares (suc n) q = shares_next n q (source w q) refl (λ s. shares n s)

  pub origin_shares : (r : ℕ) → x (origin w r) ≡ x r
  origin_shares r = shares (w.at r) r

-- what holds of registers and of each source holds of the origin
module _ (P : ℕ → Type 0) (w : Writes) (h : (r s : ℕ) → source w r ≡ Some s → P s) where
  keeps_next : (n q : ℕ) (o : Option ℕ) → source w q ≡ o → P q → ((s : ℕ) → P s → P (follow (source w) n s)) → P (follow (source w) (suc n) q)
  keeps_next n q (Some s) e here again = subst P (sym (follow_some (source w) n q s e)) (again s (h q s e))
  keeps_next n q None e here again = subst P (sym (follow_none (source w) (suc n) q e)) here

  keeps : (n q : ℕ) → P q → P (follow (source w) n q)
  unfolding follow
  keeps zero q here = here
  keeps (suc n) q here = keeps_next n q (source w q) refl here (λ s. keeps n s)

  pub origin_keeps : (r : ℕ) → P r → P (origin w r)
  origin_keeps r here = keeps (w.at r) r here
