-- Linear scan: registers whose ranges meet get places of their own.
use Rattle.std.proofs.Common.{◌≡◌, ◌≢◌, ⊎_elim, ℕ, suc, ◌≤◌, ◌<◌, nat_lt, if◌then◌else◌, Bool, true, false, List, [], ◌∷◌, length, refl, sym, ap, subst, ◌∙◌, arith}
use Rattle.std.specs.Prelude.{All}
use Rattle.std.proofs.lemmas.Bool.Decides.{nat_tests}
use Rattle.std.proofs.lemmas.List.Elements.{All-nil, All-cons}
use Rattle.std.proofs.lemmas.Option.{slice_get-get_or}
use Rattle.ckc_frame.specs.declared.code.Place.{Place}
use Rattle.ckc_frame.specs.declared.code.Place.TheVariants.{Reg, Slot}
use Rattle.ckc_frame.specs.Places.{home, number_of, number_of_home}
use Rattle.ckc_frame.specs.WellFormed.{IsPlace}
use Rattle.ckc_assign.specs.declared.ranges.Range.{Range}
use Rattle.ckc_assign.specs.code.Ranges.{range_of, Covers}
use Rattle.ckc_assign.specs.code.Homes.{first_home, holder_of, home_of, AreFirst, IsScan, LieApart}

-- ---- the first homes

test_ge : (a b : ℕ) → b ≤ a → nat_lt a b ≡ false
test_ge a b h = grind (arith, nat_tests)

used_slot : (range : Range) (r : ℕ) → range.first ≤ range.last → first_home range r ≡ Slot r
used_slot range r h = ap (λ b. if b then Reg 0 else Slot r) (test_ge range.last range.first h)

first_is_place : (b : Bool) (r : ℕ) → r < 4064 → IsPlace (if b then Reg 0 else Slot r)
first_is_place true r h = omega arith
first_is_place false r h = h

test_not : (a b : ℕ) → nat_lt a b ≡ false → b ≤ a
test_not a b e = grind (arith, nat_tests)

slot_test : (b : Bool) (r s : ℕ) → (if b then Reg 0 else Slot r) ≡ Slot s → b ≡ false
slot_test true r s e = absurd cc
slot_test false r s e = refl

first_slot : (b : Bool) (r s : ℕ) → (if b then Reg 0 else Slot r) ≡ Slot s → s ≡ r
first_slot true r s e = absurd cc
first_slot false r s e = (let f : r ≡ s = cc in sym f)

not_reg : (r h : ℕ) → Slot r ≡ Reg h → ⊥
not_reg r h e = absurd cc

pub scan_first : (ranges : List Range) (holders : List ℕ) (homes : List Place) → length ranges ≤ 4064 → length holders ≡ 16 → ((h : ℕ) → h < 16 → length ranges ≤ holder_of holders h) → AreFirst ranges (length ranges) homes → IsScan ranges holders homes
scan_first ranges holders homes few wide none a = record {
  few = few;
  long = a.long;
  wide = wide;
  places = λ r h. subst IsPlace (sym (a.first r h)) (first_is_place (nat_lt (range_of ranges r).last (range_of ranges r).first) r (omega arith));
  slots = λ r s h e. first_slot (nat_lt (range_of ranges r).last (range_of ranges r).first) r s (sym (a.first r h) ∙ e);
  needed = λ r s h e. let range = range_of ranges r in test_not range.last range.first (slot_test (nat_lt range.last range.first) r s (sym (a.first r h) ∙ e));
  used = λ h l low. absurd (let n = none h l in omega (arith, n, low));
  here = λ h l low. absurd (let n = none h l in omega (arith, n, low));
  ended = λ r h k u e. absurd (not_reg r h (sym (used_slot (range_of ranges r) r u) ∙ sym (a.first r k) ∙ e));
  apart = λ r q h k m ne u v e f. absurd (not_reg r h (sym (used_slot (range_of ranges r) r u) ∙ sym (a.first r k) ∙ e));
}

-- ---- all of them

all_places : (homes : List Place) → ((r : ℕ) → r < length homes → IsPlace (home_of homes r)) → All IsPlace homes
all_places [] h = All-nil IsPlace
all_places (p ∷ ps) h = All-cons IsPlace p ps (h 0 (omega arith)) (all_places ps (λ r m. h (suc r) (omega arith)))

place_cases : (p q : Place) → IsPlace p → IsPlace q → number_of p ≡ number_of q → p ≡ q
place_cases (Reg a) (Reg b) h k e = ap Reg e
place_cases (Reg a) (Slot b) h k e = absurd (omega arith)
place_cases (Slot a) (Reg b) h k e = absurd (omega arith)
place_cases (Slot a) (Slot b) h k e = ap Slot (omega arith)

home_is : (homes : List Place) (r : ℕ) → r < length homes → home homes r ≡ number_of (home_of homes r)
unfolding home
home_is homes r h = ap number_of_home (slice_get-get_or homes r (Slot 0) h)

module _ (ranges : List Range) (holders : List ℕ) (homes : List Place) (s : IsScan ranges holders homes) where
  same_home : (place : Place) (r q p : ℕ) → r < length ranges → q < length ranges → r ≢ q → Covers ranges r p → Covers ranges q p
      → home_of homes r ≡ place → home_of homes q ≡ place → ⊥
  same_home (Reg h) r q p m n ne c d e f = ⊎_elim (λ l. omega (arith, c.0, c.1, d.0, d.1, l)) (λ l. omega (arith, c.0, c.1, d.0, d.1, l))
      (s.apart r q h m n ne (omega (arith, c.0, c.1)) (omega (arith, d.0, d.1)) e f)
  same_home (Slot k) r q p m n ne c d e f = ne (sym (s.slots r k m e) ∙ s.slots q k n f)

  pub lie_apart : LieApart ranges homes
  lie_apart = record {
    long = s.long;
    places = all_places homes (λ r m. s.places r (omega (arith, s.long)));
    apart = λ r q p m n ne c d e. same_home (home_of homes r) r q p m n ne c d refl
        (sym (place_cases (home_of homes r) (home_of homes q) (s.places r m) (s.places q n)
        (sym (home_is homes r (omega (arith, s.long))) ∙ e ∙ home_is homes q (omega (arith, s.long)))));
  }
