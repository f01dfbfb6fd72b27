-- A pointer that is moved by some elements has the place that is judged, and keeps its range.
use Rattle.std.proofs.Common.{◌≡◌, inl, inr, refl, sym, ap, subst, ◌∙◌, ℕ, Bool, true, false, List, arith}
use Rattle.std.specs.Prelude.{◌+◌, ◌==◌, ◌<◌, ◌≤◌, ◌^◌, ◌&&◌, length, if◌then◌else◌, ℤ, pos, ◌+ℤ◌, ◌*ℤ◌, neg_ℤ, Option, None, Some, IfSome}
use Rattle.std.specs.Option.{option_or}
use Rattle.std.proofs.lemmas.Bool.{eqb-true}
use Rattle.std.proofs.lemmas.Bool.Decides.{nat_tests}
use Rattle.std.proofs.lemmas.Int.{ints}
use Rattle.ckc_types.specs.declared.types.CType.{CType}
use Rattle.ckc_linear.specs.declared.forms.Base.{Base}
use Rattle.ckc_linear.specs.declared.forms.Base.TheVariants as base
use Rattle.ckc_linear.specs.declared.forms.Form.{Form}
use Rattle.ckc_typed.specs.declared.typed.Range.{Range}
use Rattle.ckc_typed.specs.declared.typed.Range.TheVariants as range
use Rattle.ckc_blame_sound.specs.ckc_bounds_points.specs.Forms.{is_small, base_form, moved_form, sum_of_forms}
use Rattle.ckc_blame_sound.specs.ckc_bounds_points.specs.Shown.{Known}
use Rattle.ckc_blame_sound.specs.ckc_bounds_points.specs.Flow.{State}
use Rattle.ckc_blame_sound.specs.ckc_bounds_views.specs.Parts.{capped, next_behind}
use Rattle.ckc_blame_sound.specs.ckc_bounds_statements.specs.Paths.{Here}
use Rattle.ckc_source.specs.declared.outcome.Range.{Range as RunRange}
use Rattle.ckc_source.specs.declared.outcome.Value.{Value}
use Rattle.ckc_source.specs.Eval.{Store}
use Rattle.ckc_source.specs.Runs.{is_true}
use Rattle.ckc_source.specs.Words.{elements_behind}
use Rattle.ckc_build_values.specs.Kinds.{pointee_of, size_behind}
use Rattle.ckc_blame_sound.specs.Settings.{Setting}
use Rattle.ckc_blame_sound.specs.Values.{number_of}
use Rattle.ckc_blame_sound.specs.Bodies.{AreFresh}
use Rattle.ckc_blame_pointers.specs.Valuations.{Valuation, Fits, Extends, AreNumbers, address_in, address_by, IsAtPlace, IsInRange, IsReadIn, BaseBetween}
use Rattle.ckc_blame_pointers.proofs.Numbers.{times_negative, elements_twice, away, true_same}
use Rattle.ckc_blame_pointers.proofs.Claims.{IsOfLocal, AreTold, Placed}
use Rattle.ckc_blame_pointers.proofs.Later.{extends_less, extends_on, still_fits, numbers_kept, base_wider, range_wider}

-- a valuation in which one more value has an address
abbrev pub with_address : ℕ → ℕ → Valuation → Valuation
with_address n a v = record v { addresses = λ k. if k == n then a else v.addresses k }

pub address_added : (n a : ℕ) (v : Valuation) → (with_address n a v).addresses n ≡ a
address_added n a v = ap (λ (b : Bool). if b then a else v.addresses n) same
  where
    same : (n == n) ≡ true
    same = grind (arith, nat_tests)

pub address_kept : (n a : ℕ) (v : Valuation) (k : ℕ) → k < n → (with_address n a v).addresses k ≡ v.addresses k
address_kept n a v k h = ap (λ (b : Bool). if b then a else v.addresses k) different
  where
    different : (k == n) ≡ false
    different = grind (arith, nat_tests)

-- a place at the begin of a base
pub at_base : (s : Setting) (locals : List ℕ) (t : CType) (v : Valuation) → v.numbers 0 ≡ pos 0 → (b : Base)
    → address_by s locals v (size_behind s.text.layout t) (base_form b) ≡ pos (address_in s locals v (Some b))
at_base s locals t v zero b =
    ap (λ z. elements_behind (address_in s locals v (Some b)) (size_behind s.text.layout t) (z +ℤ pos 0)) zero ∙ none (address_in s locals v (Some b)) (size_behind s.text.layout t)
  where
    none : (a size : ℕ) → elements_behind a size (pos 0 +ℤ pos 0) ≡ pos a
    none a size =
        let e : pos size *ℤ neg_ℤ (pos 0) ≡ neg_ℤ (pos size *ℤ pos 0) = times_negative size (pos 0) in
        let z : pos size *ℤ pos 0 ≡ pos 0 = omega (arith, ints) in
        omega (arith, ints)

-- ---- the form of a sum

moved_small : (f h : Form) (c : ℤ) → moved_form (Some f) c ≡ Some h → record f { add = f.add +ℤ c } ≡ h
moved_small f h c e = by (is_small f.add && is_small c) e
  where
    by : (b : Bool) → ◌≡◌ {A = Option Form} (if b then Some (record f { add = f.add +ℤ c }) else None) (Some h) → record f { add = f.add +ℤ c } ≡ h
    by true e = cc
    by false e = absurd (cc)

-- It has the base of the first form.
pub sum_base : (P : Option Base → Type 0) (o q : Option Form) (h : Form) → IfSome o (λ f. P f.base) → sum_of_forms o q ≡ Some h → P h.base
sum_base P None q h p e = absurd (cc)
sum_base P (Some f) None h p e = absurd (cc)
sum_base P (Some f) (Some g) h p e = by (g.var == 0) (f.var == 0) e
  where
    by : (b c : Bool) → (if b then moved_form (Some f) g.add else (if c then moved_form (Some (record f { var = g.var })) g.add else None)) ≡ Some h → P h.base
    by true c e = subst (λ (h : Form). P h.base) (moved_small f h g.add e) p
    by false true e = subst (λ (h : Form). P h.base) (moved_small (record f { var = g.var }) h g.add e) p
    by false false e = absurd (cc)

module _ (s : Setting) (locals : List ℕ) (t : CType) (v : Valuation) (zero : v.numbers 0 ≡ pos 0) (m : ℕ) (z : ℤ) (a : ℕ) (is : pos a ≡ elements_behind m (size_behind s.text.layout t) z) where
  abbrev size : ℕ
  size = size_behind s.text.layout t

  moved_to : (f h : Form) (x y : ℤ) → pos m ≡ address_by s locals v size f → number_of v.numbers f ≡ x → z ≡ y → number_of v.numbers h ≡ x +ℤ y → h.base ≡ f.base → pos a ≡ address_by s locals v size h
  moved_to f h x y there f_is z_is h_is same =
      is ∙ ap (elements_behind m size) z_is ∙ elements_twice (address_in s locals v f.base) size x y m (there ∙ ap (elements_behind (address_in s locals v f.base) size) f_is)
      ∙ ap (λ b. elements_behind (address_in s locals v b) size (x +ℤ y)) (sym same) ∙ ap (elements_behind (address_in s locals v h.base) size) (sym h_is)

  -- A pointer that lies so many elements after a place is where the sum of the forms says.
  pub sum_at : (o q : Option Form) (h : Form) → IsAtPlace s locals v t o m → ((g : Form) → q ≡ Some g → z ≡ number_of v.numbers g) → sum_of_forms o q ≡ Some h → pos a ≡ address_by s locals v size h
  sum_at None q h place index e = absurd (cc)
  sum_at (Some f) None h place index e = absurd (cc)
  sum_at (Some f) (Some g) h place index e = by (g.var == 0) (f.var == 0) refl refl e
    where
      by : (b c : Bool) → (g.var == 0) ≡ b → (f.var == 0) ≡ c → (if b then moved_form (Some f) g.add else (if c then moved_form (Some (record f { var = g.var })) g.add else None)) ≡ Some h
          → pos a ≡ address_by s locals v size h
      by true c i j e =
          let moved : record f { add = f.add +ℤ g.add } ≡ h = moved_small f h g.add e in
          let none : g.var ≡ 0 = eqb-true g.var 0 i in
          let first_is : v.numbers g.var ≡ pos 0 = ap v.numbers none ∙ zero in
          subst (λ h. pos a ≡ address_by s locals v size h) moved
          (moved_to f (record f { add = f.add +ℤ g.add }) (number_of v.numbers f) g.add place refl (index g refl ∙ alone first_is) (again (v.numbers f.var)) refl)
        where
          alone : v.numbers g.var ≡ pos 0 → v.numbers g.var +ℤ g.add ≡ g.add
          alone e = omega (arith, ints)

          again : (x : ℤ) → x +ℤ (f.add +ℤ g.add) ≡ (x +ℤ f.add) +ℤ g.add
          again x = omega (arith, ints)
      by false true i j e =
          let moved : record f { var = g.var; add = f.add +ℤ g.add } ≡ h = moved_small (record f { var = g.var }) h g.add e in
          let none : f.var ≡ 0 = eqb-true f.var 0 j in
          let first_is : v.numbers f.var ≡ pos 0 = ap v.numbers none ∙ zero in
          subst (λ h. pos a ≡ address_by s locals v size h) moved
          (moved_to f (record f { var = g.var; add = f.add +ℤ g.add }) f.add (number_of v.numbers g) place (alone first_is) (index g refl) (again (v.numbers g.var)) refl)
        where
          alone : v.numbers f.var ≡ pos 0 → v.numbers f.var +ℤ f.add ≡ f.add
          alone e = omega (arith, ints)

          again : (x : ℤ) → x +ℤ (f.add +ℤ g.add) ≡ f.add +ℤ (x +ℤ g.add)
          again x = omega (arith, ints)
      by false false i j e = absurd (cc)

-- ---- the range of a pointer that is some elements away

module _ (s : Setting) (store : Store) (t : CType) (m : ℕ) (z : ℤ) (a : ℕ) (is : pos a ≡ elements_behind m (size_behind s.text.layout t) z) (some : m ≡ 0 → ⊥) where
  still_true : (from to : ℕ) → is_true store.shapes store.blocks (pointee_of s.text.layout t) m from to ≡ true → is_true store.shapes store.blocks (pointee_of s.text.layout t) a from to ≡ true
  still_true from to e = true_same store.shapes (pointee_of s.text.layout t) m a from to (away a m (size_behind s.text.layout t) z is) store.blocks ∙ e

  pub range_on : (v : Valuation) (q : Range) (had : RunRange) → IsInRange s store v t q (record { number = m; range = had }) → IsInRange s store v t q (record { number = a; range = had })
  range_on v range.Missing had h = tt
  range_on v range.Any had h = absurd (some h)
  range_on v (range.Known low high) had (inl null) = absurd (some null)
  range_on v (range.Known low high) had (inr ends) = inr (record {
    from = ends.from;
    to = ends.to;
    range = ends.range;
    low_is = ends.low_is;
    high_is = ends.high_is;
    true_there = still_true ends.from ends.to ends.true_there;
  })

  pub read_on : (v : Valuation) (q : Range) → IsReadIn s store v t q m → IsReadIn s store v t q a
  read_on v range.Missing h = tt
  read_on v range.Any h = absurd (some h)
  read_on v (range.Known low high) (inl null) = absurd (some null)
  read_on v (range.Known low high) (inr ends) = inr (record {
    from = ends.from;
    to = ends.to;
    low_is = ends.low_is;
    high_is = ends.high_is;
    true_there = still_true ends.from ends.to ends.true_there;
  })

-- ---- a pointer that is some elements away

module _ (s : Setting) (store : Store) (entry : List ℕ) (here : Here) (t : CType) (limit most next more : ℕ) (place : Known → Option Form) (r : State → Range) (ts types : List CType) (before middle : Valuation) (v : Value)
    (p : Placed s store entry here t limit place r ts next more middle v) (z : ℤ) (form : Known → Option Form)
    (form_is : (w : Valuation) → Fits s.frame store.locals w → (facts : Known) → AreTold s store entry here w facts → (g : Form) → form facts ≡ Some g → z ≡ number_of w.numbers g)
    (a : ℕ) (is : pos a ≡ elements_behind v.number (size_behind s.text.layout t) z) (some : v.number ≡ 0 → ⊥) where
  -- It has the place of the sum, or stands for itself. A valuation w also says what the fresh variables of the index are.
  pub moved_placed : (first fresh n : ℕ) (w : Valuation) → first ≤ next → first ≤ n → limit ≤ n → n < most → next_behind more ts ≤ next_behind fresh types → fresh ≤ next_behind fresh types → fresh + length types < 2 ^ 32
      → AreFresh s.frame fresh → Fits s.frame store.locals before → Extends first fresh before w → Extends limit (next_behind more ts) p.after w → AreNumbers w.numbers (capped fresh 1) types
      → Placed s store entry here t most (λ facts. option_or (sum_of_forms (place facts) (form facts)) (Some (base_form (base.Value n)))) r types first fresh before (record { number = a; range = v.range })
  moved_placed first fresh n w begin from over under up on little are fits begins goes numbers = record {
    after = after;
    extends = extends_on first fresh before w after begins (own_kept first fresh from);
    place_between = λ facts. between (sum_of_forms (place facts) (form facts)) (λ h e. sum_base (BaseBetween next limit) (place facts) (form facts) h (p.place_between facts) e);
    range_between = λ widened. range_wider first next limit most (r (record here.at { widened = widened })) begin (omega (arith, over, under)) (p.range_between widened);
    of_local = λ facts. local (sum_of_forms (place facts) (form facts)) (λ h e. sum_base (IsOfLocal s t) (place facts) (form facts) h (p.of_local facts) e);
    place_in = λ later ext facts told. at_place later ext facts told (sum_of_forms (place facts) (form facts)) refl;
    range_is = λ later ext. range_on s store t v.number z a is some later (r here.at) v.range (p.range_is later (part later ext));
    readable = λ widened bounded later ext. read_on s store t v.number z a is some later (r (record here.at { widened = widened })) (p.readable widened bounded later (part later ext));
    numbers = λ later ext. numbers_kept after later most fresh types little ext (numbers_kept w after first fresh types little (own_kept first (next_behind fresh types) from) numbers);
  }
    where
      after : Valuation
      after = with_address n a w

      own_kept : (first last : ℕ) → first ≤ n → Extends first last w after
      own_kept first last up = record { addresses = λ k below. address_kept n a w k (omega (arith, below, up)); numbers = λ x below. refl }

      -- what is later says what the pointer's part does
      part : (later : Valuation) → Extends most (next_behind fresh types) after later → Extends limit (next_behind more ts) p.after later
      part later ext =
          extends_on limit (next_behind more ts) p.after w later goes
          (extends_on limit (next_behind more ts) w after later (own_kept limit (next_behind more ts) over) (extends_less limit (next_behind more ts) most (next_behind fresh types) after later (omega (arith, over, under)) up ext))

      fits_later : (later : Valuation) → Extends most (next_behind fresh types) after later → Fits s.frame store.locals later
      fits_later later ext =
          still_fits s store.locals 0 fresh before later are fits
          (extends_on 0 fresh before w later (extends_less 0 fresh first fresh before w (omega arith) (omega arith) begins)
          (extends_on 0 fresh w after later (own_kept 0 fresh (omega arith)) (extends_less 0 fresh most (next_behind fresh types) after later (omega arith) on ext)))

      between : (o : Option Form) → ((h : Form) → o ≡ Some h → BaseBetween next limit h.base) → IfSome (option_or o (Some (base_form (base.Value n)))) (λ f. BaseBetween first most f.base)
      between (Some h) there = base_wider first next limit most h.base begin (omega (arith, over, under)) (there h refl)
      between None there = (from, under)

      local : (o : Option Form) → ((h : Form) → o ≡ Some h → IsOfLocal s t h.base) → IfSome (option_or o (Some (base_form (base.Value n)))) (λ f. IsOfLocal s t f.base)
      local (Some h) there = there h refl
      local None there = tt

      at_place : (later : Valuation) → Extends most (next_behind fresh types) after later → (facts : Known) → AreTold s store entry here later facts → (o : Option Form) → sum_of_forms (place facts) (form facts) ≡ o
          → IsAtPlace s store.locals later t (option_or o (Some (base_form (base.Value n)))) a
      at_place later ext facts told (Some h) e =
          sum_at s store.locals t later (fits_later later ext 0 (inl refl)) v.number z a is (place facts) (form facts) h (p.place_in later (part later ext) facts told) (form_is later (fits_later later ext) facts told) e
      at_place later ext facts told None e =
          sym (at_base s store.locals t later (fits_later later ext 0 (inl refl)) (base.Value n) ∙ ap pos (ext.addresses n under ∙ address_added n a w))
