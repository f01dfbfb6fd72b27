-- Slots are given only if many ranges meet.
use Rattle.std.proofs.Common.{◌≡◌, ⊎_elim, ℕ, zero, suc, ◌+◌, ◌≤◌, ◌<◌, List, [], ◌∷◌, length, get_or, refl, sym, ap, subst, ◌∙◌, arith}
use Rattle.std.specs.Prelude.{All}
use Rattle.std.specs.List.Sorted.{IsPermutation}
use Rattle.std.proofs.lemmas.Bool.{cases_lt}
use Rattle.std.proofs.lemmas.List.{get_or_default, get_or_past}
use Rattle.std.proofs.lemmas.List.Elements.{All-nil, All-cons, All-contains}
use Rattle.std.proofs.lemmas.List.Sorted.{All-permutation, Contains-permutation}
use Rattle.ckc_frame.specs.declared.code.Place.{Place}
use Rattle.ckc_frame.specs.declared.code.Place.TheVariants.{Reg, Slot}
use Rattle.ckc_assign.specs.Slots.{AreDistinct}
use Rattle.ckc_assign.specs.declared.homes.Start.{Start}
use Rattle.ckc_assign.specs.declared.ranges.Range.{Range}
use Rattle.ckc_assign.specs.code.Ranges.{range_of, unused, Covers, HasRange}
use Rattle.ckc_assign.specs.code.Homes.{holder_of, home_of, start_of, no_start, AreBusy, BeginLate, HasGiven, HasStarts, HaveBegun, IsFair, IsGiven, IsOrder, IsScan, MeetsMany}

-- a number that no register has, has no range
past : (ranges : List Range) (q : ℕ) → length ranges ≤ q → range_of ranges q ≡ unused
past ranges q h = get_or_past ranges q unused h

-- a register whose range ends at a place, or later
pub is_register : (ranges : List Range) (q place : ℕ) → 1 ≤ place → place ≤ (range_of ranges q).last → q < length ranges
is_register ranges q place late h = ⊎_elim (λ l. l)
    (λ (l : length ranges ≤ q). absurd (let e : (range_of ranges q).last ≡ 0 = ap (λ (x : Range). x.last) (past ranges q l) in omega (arith, e, h, late)))
    (cases_lt q (length ranges))

-- ---- no machine register is free

module _ (ranges : List Range) (homes : List Place) (place : ℕ) where
  -- registers at the first machine registers, whose ranges have a place in common
  record Others (count : ℕ) : Type 0 where
    pub others : List ℕ
    pub many : length others ≡ count
    pub distinct : AreDistinct others
    pub meet : All (λ q. Covers ranges q place) others
    pub homes_are : All (λ q. (h : ℕ) × (h < count) × (home_of homes q ≡ Reg h)) others

  same_reg : (h k : ℕ) → Reg h ≡ Reg k → h ≡ k
  same_reg h k e = cc

  others_none : Others 0
  others_none = record {
    others = [];
    many = refl;
    distinct = tt;
    meet = All-nil (λ q. Covers ranges q place);
    homes_are = All-nil (λ q. (h : ℕ) × (h < 0) × (home_of homes q ≡ Reg h));
  }

  others_more : (count q : ℕ) → Covers ranges q place → home_of homes q ≡ Reg count → Others count → Others (suc count)
  others_more count q covers here o = record {
    others = q ∷ o.others;
    many = ap suc o.many;
    distinct = (
      λ c. let (h, low, e) = All-contains (λ q. (h : ℕ) × (h < count) × (home_of homes q ≡ Reg h)) o.others q o.homes_are c in
          let same = same_reg h count (sym e ∙ here) in omega (arith, low, same),
      o.distinct,
    );
    meet = All-cons (λ q. Covers ranges q place) q o.others covers o.meet;
    homes_are = All-cons (λ q. (h : ℕ) × (h < suc count) × (home_of homes q ≡ Reg h)) q o.others (count, omega arith, here)
        (λ k d l. let (h, low, e) = o.homes_are k d l in (h, omega (arith, low), e));
  }

  others_of : (holders : List ℕ) → IsScan ranges holders homes → 1 ≤ place → HaveBegun ranges holders place → AreBusy ranges holders place → (count : ℕ) → count ≤ 16 → Others count
  others_of holders s late begun full zero h = others_none
  others_of holders s late begun full (suc count) h =
      let end : place ≤ (range_of ranges (holder_of holders count)).last = full count (omega (arith, s.wide, h)) in
      let there = is_register ranges (holder_of holders count) place late end in
      others_more count (holder_of holders count) (begun count (omega arith) there, end) (s.here count (omega arith) there) (others_of holders s late begun full count (omega arith))

slot_no_reg : (r h : ℕ) → Slot r ≡ Reg h → ⊥
slot_no_reg r h e = absurd cc

-- a register in a slot whose range has a place at which no machine register is free
pub meets_many : (ranges : List Range) (holders : List ℕ) (homes : List Place) → IsScan ranges holders homes → (place : ℕ) → 1 ≤ place → HaveBegun ranges holders place → AreBusy ranges holders place
    → (r : ℕ) → r < length ranges → home_of homes r ≡ Slot r → Covers ranges r place → MeetsMany ranges r
meets_many ranges holders homes s place late begun full r there slot covers =
    let o = others_of ranges homes place holders s late begun full 16 (omega arith) in
    record {
      place = place;
      here = covers;
      others = o.others;
      many = o.many;
      distinct = (
        λ c. let (h, low, is) = All-contains (λ q. (h : ℕ) × (h < 16) × (home_of homes q ≡ Reg h)) o.others r o.homes_are c in slot_no_reg r h (sym slot ∙ is),
        o.distinct,
      );
      meet = o.meet;
    }

pub given_none : (ranges : List Range) (holders : List ℕ) (homes : List Place) (r : ℕ) → IsScan ranges holders homes → BeginLate ranges → r < length ranges → home_of homes r ≡ Slot r
    → HaveBegun ranges holders (range_of ranges r).first → AreBusy ranges holders (range_of ranges r).first → IsGiven ranges r holders homes holders homes
given_none ranges holders homes r s late there slot begun full =
    let used : HasRange ranges r = s.needed r r there slot in
    record {
      begun = λ p from b. b;
      kept = λ q h. h;
      fair = λ k m e. meets_many ranges holders homes s (range_of ranges r).first (late r used) begun full r there slot (omega arith, used);
    }

-- ---- the registers of an order, one after another

pub has_given_none : (ranges : List Range) (order : List Start) (holders : List ℕ) (homes : List Place) → IsScan ranges holders homes → ((h : ℕ) → h < 16 → length ranges ≤ holder_of holders h)
    → HasGiven ranges order 0 holders homes
has_given_none ranges order holders homes s none = record {
  scan = s;
  begun = λ k low high h l there. absurd (let n = none h l in omega (arith, n, there));
  fair = λ k low. absurd (omega arith);
}

start_is : (ranges : List Range) (order : List Start) (i r : ℕ) → IsOrder ranges order → i < length order → r ≡ (get_or order i no_start).register → (get_or order i no_start).first ≡ (range_of ranges r).first
start_is ranges order i r o l is = o.starts.first i no_start l ∙ ap (λ q. (range_of ranges q).first) (sym is)

-- what holds machine registers has begun where the next range begins
pub begun_at : (ranges : List Range) (order : List Start) (i r : ℕ) (holders : List ℕ) (homes : List Place) → IsOrder ranges order → i < length order → r ≡ (get_or order i no_start).register
    → HasGiven ranges order i holders homes → HaveBegun ranges holders (range_of ranges r).first
begun_at ranges order i r holders homes o l is g = subst (HaveBegun ranges holders) (start_is ranges order i r o l is) (g.begun i (omega arith) l)

pub has_given_more : (ranges : List Range) (order : List Start) (i r : ℕ) (holders holders' : List ℕ) (homes homes' : List Place) → IsOrder ranges order → i < length order
    → r ≡ (get_or order i no_start).register → HasGiven ranges order i holders homes → IsScan ranges holders' homes' → IsGiven ranges r holders homes holders' homes'
    → HasGiven ranges order (i + 1) holders' homes'
has_given_more ranges order i r holders holders' homes homes' o l is g s n =
    let first = start_is ranges order i r o l is in
    record {
      scan = s;
      begun = λ k low high.
          let up : (get_or order i no_start).first ≤ (get_or order k no_start).first = o.sorted i k no_start (omega arith) high in
          n.begun (get_or order k no_start).first (omega (arith, up, first)) (g.begun k (omega arith) high);
      fair = λ k low. ⊎_elim
          (λ (less : k < i). n.kept (get_or order k no_start).register (g.fair k less))
          (λ (more : i ≤ k).
          let same : k ≡ i = omega arith in
          subst (IsFair ranges homes') (is ∙ ap (λ j. (get_or order j no_start).register) (sym same)) n.fair)
          (cases_lt k i);
    }

pub all_fair : (ranges : List Range) (order : List Start) (holders : List ℕ) (homes : List Place) → IsOrder ranges order → HasGiven ranges order (length order) holders homes
    → (r : ℕ) → IsFair ranges homes r
all_fair ranges order holders homes o g r s there e =
    let (k, l, is) = o.starts.all r there (g.scan.needed r s there e) in
    let same : (get_or order k no_start).register ≡ r =
    ap (λ (x : Start). x.register) (get_or_default order k no_start (start_of ranges r) l ∙ is) in
    subst (IsFair ranges homes) same (g.fair k l) s there e

-- ---- the starts of ranges

pub starts_sorted : (ranges : List Range) (n : ℕ) (old new : List Start) → IsPermutation old new → HasStarts ranges n old → HasStarts ranges n new
starts_sorted ranges n old new p s = record {
  all = λ r low used. Contains-permutation old new (start_of ranges r) p (s.all r low used);
  first = All-permutation (λ (x : Start). x.first ≡ (range_of ranges x.register).first) old new p s.first;
}
