-- Bounds that are contained in the range of a pointer may be read within.
use Rattle.std.proofs.Common.{◌≡◌, ◌≢◌, ℕ, ◌+◌, ◌*◌, ◌%◌, ◌==◌, refl, sym, ◌∙◌, ap, subst, List, ℤ, ◌+ℤ◌, ◌≤ℤ◌, arith}
use Rattle.std.specs.Prelude.{Bool, true, false, ◌&&◌, pos, negsuc, ◌*ℤ◌, if◌then◌else◌, Option, None, Some, Err, IsOk}
use Rattle.std.specs.List.{All}
use Rattle.std.proofs.lemmas.Int.{ints}
use Rattle.std.proofs.lemmas.Bool.{and_parts, eqb-true}
use Rattle.std.proofs.Math.Nat.{add-mul-mod_self_left}
use Rattle.ckc_linear.specs.declared.forms.Base.{Base}
use Rattle.ckc_linear.specs.declared.forms.Base.TheVariants as base
use Rattle.ckc_linear.specs.declared.forms.Form.{Form}
use Rattle.ckc_linear.specs.Facts.{Satisfies}
use Rattle.ckc_typed.specs.declared.typed.Range.{Range}
use Rattle.ckc_typed.specs.declared.typed.Range.TheVariants as range
use Rattle.ckc_typed.specs.declared.typed.Typed.{Typed}
use Rattle.ckc_bounds.specs.ckc_bounds_known.specs.Ranges.{is_small}
use Rattle.ckc_bounds.specs.ckc_bounds_points.specs.declared.frame.Bounds.TheVariants as bounds
use Rattle.ckc_bounds.specs.ckc_bounds_points.specs.Shown.{Known, is_shown}
use Rattle.ckc_bounds.specs.ckc_bounds_points.specs.Flow.{with_fact}
use Rattle.ckc_bounds.specs.ckc_bounds_points.specs.Forms.{same_base, at_most, at_less, with_most, with_less}
use Rattle.ckc_bounds.specs.ckc_bounds_ranges.specs.declared.replacements.BaseBy.{BaseBy}
use Rattle.ckc_bounds.specs.ckc_bounds_ranges.specs.declared.replacements.VariableBy.{VariableBy}
use Rattle.ckc_bounds.specs.ckc_bounds_ranges.specs.Replaced.{replaced, both_ends}
use Rattle.ckc_bounds.specs.ckc_bounds_ranges.specs.Contained.{is_at_most, at_most_far, with_far, with_element, lies_between, is_contained}
use Rattle.ckc_bounds.specs.ckc_bounds_views.specs.Judged.{extended_by}
use Rattle.ckc_bounds.specs.ckc_bounds_stores.specs.Values.{Value, holds}
use Rattle.ckc_source.specs.declared.outcome.Halt.TheVariants.{Stuck}
use Rattle.ckc_source.specs.Runs.{is_true}
use Rattle.ckc_source.specs.Eval.{reads, reads_within, plain, ranged}
use Rattle.ckc_blame_sound.specs.Values.{number_of}
use Rattle.ckc_blame_sound.specs.Sound.{IsPlaced}
use Rattle.ckc_blame_sound.specs.Valuations.{Valuation, form_address, AreFacts}
use Rattle.ckc_blame_sound.proofs.Facts.{fact_added, shown_true}
use Rattle.ckc_blame_sound.specs.Agreeing.{IsReplaced}
use Rattle.ckc_blame_sound.specs.Containment.{Memory, IsReadBetween, IsReadWithin, IsJudged, IsRanged}
use Rattle.ckc_blame_sound.proofs.Moved.{form_moved}
use Rattle.ckc_blame_sound.proofs.ContainedNumbers.{so_far, far}
use Rattle.ckc_blame_sound.proofs.Narrower.{closer_true, true_lies}

-- ---- what it is to be read

-- a true range between two addresses
pub record IsTrueAt (m : Memory) (n : ℕ) (x y : ℤ) : Type 0 where
  pub low : ℕ
  pub high : ℕ
  pub begins : x ≡ pos low
  pub ends : y ≡ pos high
  pub holds : is_true m.shapes m.blocks m.to n low high ≡ true

-- null may be read within any bounds
pub null_reads : (m : Memory) (n : ℕ) (x y : ℤ) → n ≡ 0 → IsOk (reads m.shapes m.blocks m.to n x y)
null_reads m n x y e = subst (λ k. IsOk (reads m.shapes m.blocks m.to k x y)) (sym e) refl

some_reads : (m : Memory) (n low high : ℕ) → is_true m.shapes m.blocks m.to n low high ≡ true → IsOk (reads m.shapes m.blocks m.to n (pos low) (pos high))
some_reads m n low high h = by (n == 0) (is_true m.shapes m.blocks m.to n low high) h
  where
    by : (a b : Bool) → b ≡ true → IsOk (if a then plain 0 else (if b then ranged n low high else Err Stuck))
    by true b h = refl
    by false true h = refl
    by false false h = absurd cc

pub true_reads : (m : Memory) (n : ℕ) (x y : ℤ) → IsTrueAt m n x y → IsOk (reads m.shapes m.blocks m.to n x y)
true_reads m n x y t =
    subst (λ z. IsOk (reads m.shapes m.blocks m.to n z y)) (sym t.begins)
    (subst (λ z. IsOk (reads m.shapes m.blocks m.to n (pos t.low) z)) (sym t.ends) (some_reads m n t.low t.high t.holds))

pub true_at : (m : Memory) (n : ℕ) (x y : ℤ) → n ≢ 0 → IsOk (reads m.shapes m.blocks m.to n x y) → IsTrueAt m n x y
true_at m n x y d h = by (n == 0) refl h
  where
    at : (low high : ℕ) (b : Bool) → is_true m.shapes m.blocks m.to n low high ≡ b → IsOk (if b then ranged n low high else Err Stuck) → IsTrueAt m n (pos low) (pos high)
    at low high true e h = record { low = low; high = high; begins = refl; ends = refl; holds = e }
    at low high false e h = absurd cc

    of : (x y : ℤ) → IsOk (reads_within m.shapes m.blocks m.to n x y) → IsTrueAt m n x y
    of (pos low) (pos high) h = at low high (is_true m.shapes m.blocks m.to n low high) refl h
    of (pos low) (negsuc high) h = absurd cc
    of (negsuc low) y h = absurd cc

    by : (a : Bool) → (n == 0) ≡ a → IsOk (if a then plain 0 else reads_within m.shapes m.blocks m.to n x y) → IsTrueAt m n x y
    by true e h = absurd (d (eqb-true n 0 e))
    by false e h = of x y h

-- a pointer is null or not
pub null_or : (P : Type 0) (n : ℕ) → (n ≡ 0 → P) → (n ≢ 0 → P) → P
null_or P n f g = by (n == 0) refl
  where
    differs : (n == 0) ≡ false → n ≢ 0
    differs e z = let t : (n == 0) ≡ true = ap (λ k. k == 0) z in absurd cc

    by : (b : Bool) → (n == 0) ≡ b → P
    by true e = f (eqb-true n 0 e)
    by false e = g (differs e)

-- ---- forms in order

pub base_equal : (a b : Option Base) → same_base a b ≡ true → a ≡ b
base_equal None None e = refl
base_equal (Some (base.Local j)) (Some (base.Local k)) e = ap (λ n. Some (base.Local n)) (eqb-true j k e)
base_equal (Some (base.Array j)) (Some (base.Array k)) e = ap (λ n. Some (base.Array n)) (eqb-true j k e)
base_equal (Some (base.Value j)) (Some (base.Value k)) e = ap (λ n. Some (base.Value n)) (eqb-true j k e)
base_equal None (Some b) e = absurd cc
base_equal (Some (base.Local j)) None e = absurd cc
base_equal (Some (base.Local j)) (Some (base.Array k)) e = absurd cc
base_equal (Some (base.Local j)) (Some (base.Value k)) e = absurd cc
base_equal (Some (base.Array j)) None e = absurd cc
base_equal (Some (base.Array j)) (Some (base.Local k)) e = absurd cc
base_equal (Some (base.Array j)) (Some (base.Value k)) e = absurd cc
base_equal (Some (base.Value j)) None e = absurd cc
base_equal (Some (base.Value j)) (Some (base.Local k)) e = absurd cc
base_equal (Some (base.Value j)) (Some (base.Array k)) e = absurd cc

at_most_is : (v : Valuation) (facts : Known) (f g : Form) → AreFacts v facts → is_at_most facts f g ≡ true
    → (f.base ≡ g.base) × (number_of v.number f ≤ℤ number_of v.number g)
at_most_is v facts f g all e =
    let a = and_parts (same_base f.base g.base) ((is_small f.add && is_small g.add) && is_shown facts (at_most f g)) e in
    let b = and_parts (is_small f.add && is_small g.add) (is_shown facts (at_most f g)) a.1 in
    let t : Satisfies v.number (at_most f g) = shown_true facts v.number (at_most f g) all b.1 in
    (base_equal f.base g.base a.0, omega (arith, ints))

-- both ends of bounds with what they name replaced, in the range
record Between (facts : Known) (l u : Form) (o p : Option Form) : Type 0 where
  from : Form
  upto : Form
  low : o ≡ Some from
  high : p ≡ Some upto
  begins : is_at_most facts l from ≡ true
  ordered : is_at_most facts from upto ≡ true
  ends : is_at_most facts upto u ≡ true

between : (facts : Known) (l u : Form) (o p : Option Form) → lies_between facts (record { low = l; high = u }) (both_ends o p) ≡ true → Between facts l u o p
between facts l u None p e = absurd cc
between facts l u (Some f) None e = absurd cc
between facts l u (Some f) (Some g) e =
    let a = and_parts (is_at_most facts l f) (is_at_most facts f g && is_at_most facts g u) e in
    let b = and_parts (is_at_most facts f g) (is_at_most facts g u) a.1 in
    record { from = f; upto = g; low = refl; high = refl; begins = a.0; ordered = b.0; ends = b.1 }

-- so many elements further the remainder is the same
same_even : (h k s n : ℕ) → h ≡ k + s * n → k % s ≡ h % s
same_even h k s n e = sym (ap (λ j. j % s) e ∙ add-mul-mod_self_left k s n)

-- a form with the base of another one
at_base : (v : Valuation) (size : ℕ) (f : Form) (b : Option Base) (k : ℕ) → b ≡ f.base → v.address b +ℤ (pos size *ℤ number_of v.number f) ≡ pos k → form_address v size f ≡ pos k
at_base v size f b k e h = ap (λ o. v.address o +ℤ (pos size *ℤ number_of v.number f)) (sym e) ∙ h

module _ (m : Memory) (before after : Valuation) (n : ℕ) where
  within_true : (facts : Known) (l u f g : Form) → AreFacts before facts → IsTrueAt m n (form_address before m.to.size l) (form_address before m.to.size u)
      → is_at_most facts l f ≡ true → is_at_most facts f g ≡ true → is_at_most facts g u ≡ true
      → IsTrueAt m n (form_address before m.to.size f) (form_address before m.to.size g)
  within_true facts l u f g all t p q r =
      let a = at_most_is before facts l f all p in
      let b = at_most_is before facts f g all q in
      let c = at_most_is before facts g u all r in
      let s = m.to.size in
      let origin = before.address l.base in
      let x = number_of before.number l in
      let y = number_of before.number f in
      let z = number_of before.number g in
      let w = number_of before.number u in
      let one = so_far s t.low origin x y (sym t.begins) a.1 in
      let two = so_far s (t.low + s * one.0) origin y z (sym one.1) b.1 in
      let three = so_far s (t.low + s * one.0 + s * two.0) origin z w (sym two.1) c.1 in
      let mid = t.low + s * one.0 + s * two.0 in
      let to_g : l.base ≡ g.base = a.0 ∙ b.0 in
      let to_u : l.base ≡ u.base = a.0 ∙ (b.0 ∙ c.0) in
      let begins = at_base before s f l.base (t.low + s * one.0) a.0 one.1 in
      let ends = at_base before s g l.base mid to_g two.1 in
      let top = at_base before s u l.base (mid + s * three.0) to_u three.1 in
      let last = t.ends in
      let high : t.high ≡ t.low + s * one.0 + s * two.0 + s * three.0 = omega (arith, ints) in
      record {
        low = t.low + s * one.0;
        high = t.low + s * one.0 + s * two.0;
        begins = begins;
        ends = ends;
        holds = closer_true m.shapes m.to n t.low t.high (t.low + s * one.0) (t.low + s * one.0 + s * two.0) (omega arith) (omega arith) (omega arith)
            (add-mul-mod_self_left t.low s one.0)
            (same_even t.high mid s three.0 high)
            m.blocks t.holds;
      }

  module _ (value : Value) (bases : List BaseBy) (variables : List VariableBy) (low high : Form) (zero_is : before.number 0 ≡ pos 0)
      (replaced_as : AreFacts before value.facts → IsReplaced bases variables m.to.size before after low × IsReplaced bases variables m.to.size before after high) where
    by_range : (r : Range) → n ≢ 0 → AreFacts before value.facts → IsReadWithin m before n r
        → is_contained value.facts (bounds.Known low high) false r (both_ends (replaced bases variables low) (replaced bases variables high)) ≡ true
        → IsReadBetween m after n low high
    by_range (range.Known l u) d all h e =
        let b = between value.facts l u (replaced bases variables low) (replaced bases variables high) e in
        let t = true_at m n (form_address before m.to.size l) (form_address before m.to.size u) d h in
        let w = within_true value.facts l u b.from b.upto all t b.begins b.ordered b.ends in
        let here = replaced_as all in
        let begins = form_moved bases variables m.to.size before after low b.from zero_is here.0 b.low in
        let ends = form_moved bases variables m.to.size before after high b.upto zero_is here.1 b.high in
        true_reads m n (form_address after m.to.size low) (form_address after m.to.size high)
        (record { low = w.low; high = w.high; begins = sym begins ∙ w.begins; ends = sym ends ∙ w.ends; holds = w.holds })
    by_range range.Missing d all h e = absurd cc
    by_range range.Any d all h e = absurd cc

    pub contained_reads : IsJudged m before n value → holds value (bounds.Known low high) bases variables ≡ true → IsReadBetween m after n low high
    unfolding holds
    contained_reads j e = null_or (IsReadBetween m after n low high) n (λ z. null_reads m n (form_address after m.to.size low) (form_address after m.to.size high) z) (λ d. by d value.null refl e)
      where
        by : n ≢ 0 → (b : Bool) → value.null ≡ b
            → is_contained value.facts (bounds.Known low high) b value.range (both_ends (replaced bases variables low) (replaced bases variables high)) ≡ true
            → IsReadBetween m after n low high
        by d true z e = absurd (d (j.null z))
        by d false z e = by_range value.range d (j.facts d) j.range e

-- ---- what more is known

module _ (p : Typed) (m : Memory) (v : Valuation) (n : ℕ) (placed : All (IsPlaced p) m.blocks) (some : n ≢ 0) where
  -- the ends of a range with one base
  ordered : (l u : Form) → l.base ≡ u.base → IsReadBetween m v n l u
      → (number_of v.number l ≤ℤ number_of v.number u) × (number_of v.number u ≤ℤ (number_of v.number l +ℤ pos 16777216))
  ordered l u b h =
      let t = true_at m n (form_address v m.to.size l) (form_address v m.to.size u) some h in
      let lies = true_lies p m.shapes m.to n t.low t.high m.blocks placed t.holds in
      let above = lies.above in
      let below = lies.below in
      let f = far m.to.size t.low t.high (v.address l.base) (number_of v.number l) (number_of v.number u) lies.sized
      (sym t.begins) (sym (ap (λ o. v.address o +ℤ (pos m.to.size *ℤ number_of v.number u)) b ∙ t.ends)) lies.ordered in
      let high = f.1 in
      (f.0, omega (arith, ints))

  most_added : (f g : Form) (facts : Known) → (number_of v.number f ≤ℤ number_of v.number g) → AreFacts v facts → AreFacts v (with_most f g facts)
  most_added f g facts h all = by (is_small f.add && is_small g.add)
    where
      by : (b : Bool) → AreFacts v (if b then with_fact (at_most f g) facts else facts)
      by true = fact_added v.number (at_most f g) facts (omega (arith, ints)) all
      by false = all

  far_added : (f g : Form) (facts : Known) → (number_of v.number f ≤ℤ (number_of v.number g +ℤ pos 16777216)) → AreFacts v facts → AreFacts v (with_far f g facts)
  far_added f g facts h all = by (is_small f.add && is_small g.add)
    where
      by : (b : Bool) → AreFacts v (if b then with_fact (at_most_far f g) facts else facts)
      by true = fact_added v.number (at_most_far f g) facts (omega (arith, ints)) all
      by false = all

  less_added : (f g : Form) (facts : Known) → ((number_of v.number f +ℤ pos 1) ≤ℤ number_of v.number g) → AreFacts v facts → AreFacts v (with_less f g facts)
  less_added f g facts h all = by (is_small f.add && is_small g.add)
    where
      by : (b : Bool) → AreFacts v (if b then with_fact (at_less f g) facts else facts)
      by true = fact_added v.number (at_less f g) facts (omega (arith, ints)) all
      by false = all

  element_added : (allocated : Bool) (l u : Form) (facts : Known) → (allocated ≡ true → (number_of v.number l +ℤ pos 1) ≤ℤ number_of v.number u) → AreFacts v facts
      → AreFacts v (with_element allocated (record { low = l; high = u }) facts)
  element_added true l u facts h all = less_added l u facts (h refl) all
  element_added false l u facts h all = all

  pub more_known : (r before : Range) (allocated : Bool) (facts : Known) → IsRanged m v n r before allocated → AreFacts v facts → AreFacts v (extended_by r before allocated facts)
  more_known (range.Known l u) (range.Known k b) allocated facts ranged all = by (same_base l.base u.base) refl
    where
      by : (c : Bool) → same_base l.base u.base ≡ c
          → AreFacts v (if c then with_element allocated (record { low = l; high = u }) (with_far u l (with_most l b facts)) else facts)
      by true e =
          let base = base_equal l.base u.base e in
          let wide = ordered l u base ranged.wide in
          let begin = ranged.narrowed.0 in
          let at : k.base ≡ b.base = ap (λ (f : Form). f.base) begin ∙ (base ∙ sym ranged.narrowed.1) in
          let narrow = ordered k b at ranged.narrow in
          let from : number_of v.number l ≤ℤ number_of v.number b = subst (λ f. number_of v.number f ≤ℤ number_of v.number b) begin narrow.0 in
          element_added allocated l u (with_far u l (with_most l b facts)) (λ a. ranged.element a some)
          (far_added u l (with_most l b facts) wide.1 (most_added l b facts from all))
      by false e = all
  more_known (range.Known l u) range.Missing allocated facts ranged all = all
  more_known (range.Known l u) range.Any allocated facts ranged all = all
  more_known range.Missing before allocated facts ranged all = all
  more_known range.Any before allocated facts ranged all = all
