-- Facts are true after an assignment, where branches join, at the head of a loop and at the begin of a function.
use Rattle.std.proofs.Common.{◌≡◌, ◌≢◌, ⊎_elim, refl, sym, ap, subst, ◌∙◌, ℕ, zero, suc, ◌+◌, Bool, true, false, List, [], ◌∷◌, length, ℤ, ◌+ℤ◌, arith}
use Rattle.std.specs.Prelude.{◌^◌, ◌<◌, ◌==◌, ◌&&◌, cond, if◌then◌else◌, pos, neg_ℤ, slice_get, slice_index, slice_set, Option, None, Some, IfSome}
use Rattle.std.specs.List.{filter, list_any}
use Rattle.std.specs.Ordering.{int_eq}
use Rattle.std.proofs.lemmas.Int.{ints}
use Rattle.std.proofs.lemmas.Bool.Decides.{nat_tests, eqb_tells, Decides-int_eq}
use Rattle.std.proofs.lemmas.List.{get_or-set_same, get_or-set_other}
use Rattle.std.proofs.lemmas.List.Elements.{All-nil, All-cons, All-head, All-tail, All-map, All-filter, All-weaker}
use Rattle.ckc_types.specs.declared.types.CType.{CType, CType-F, out-CType}
use Rattle.ckc_linear.specs.declared.facts.Fact.{Fact}
use Rattle.ckc_linear.specs.declared.forms.Form.{Form}
use Rattle.ckc_linear.specs.Facts.{Satisfies, shifted}
use Rattle.ckc_linear.proofs.Values.{shifted_holds}
use Rattle.ckc_typed.specs.Types.{is_integer, is_integer_form, is_char_form}
use Rattle.ckc_bounds.specs.ckc_bounds_known.specs.declared.intervals.Interval.{Interval}
use Rattle.ckc_bounds.specs.ckc_bounds_points.specs.declared.frame.Local.{Local}
use Rattle.ckc_bounds.specs.ckc_bounds_points.specs.declared.frame.Frame.{Frame}
use Rattle.ckc_bounds.specs.ckc_bounds_points.specs.Shown.{Known, is_within}
use Rattle.ckc_bounds.specs.ckc_bounds_known.specs.Ranges.{range_in, range_of, with_fact, with_range, forgotten}
use Rattle.ckc_bounds.specs.ckc_bounds_points.specs.Frames.{local_at}
use Rattle.ckc_bounds.specs.ckc_bounds_points.specs.Flow.{State, stays_small, moved, assigned_facts, local_assigned, assigned, less, same_fact, in_both, ranges_from, ranges}
use Rattle.ckc_source.specs.Words.{exact}
use Rattle.ckc_build_values.specs.Kinds.{integer_in, integer_of}
use Rattle.ckc_blame_sound.specs.Values.{value_in, value, AreTrue, number_of, IsWordOf, IsBetween, HoldWords}
use Rattle.ckc_blame_sound.proofs.Facts.{same, one_of, Hold, fact_added, range_added, rest_holds}

differs : (a b : ℕ) → (a == b) ≡ false → a ≢ b
differs a b e d = let t : (a == b) ≡ true = grind (arith, nat_tests) in cc

-- ---- an assignment

module _ (x : ℕ) (before after : ℕ → ℤ) (others : (v : ℕ) → v ≢ x → after v ≡ before v) where
  moved_hold : (c : ℤ) (facts : Known) → after x ≡ before x +ℤ c → Hold before facts.list → Hold after (moved x c facts).list
  moved_hold c facts grown h =
      let small = filter (stays_small x c) facts.list in
      All-map (Satisfies after) (shifted x c) small
      (All-weaker (Satisfies before) (λ f. Satisfies after (shifted x c f)) (λ f s. shifted_holds x before after others f c grown s) small
      (All-filter (stays_small x c) (Satisfies before) facts.list h))

  -- what is left if the facts on x go
  left_hold : (r : Option Interval) (facts : Known) → after 0 ≡ pos 0 → IsBetween r (after x) → Hold before facts.list → Hold after (with_range x r (forgotten x facts)).list
  left_hold r facts origin lies h = range_added after x r (forgotten x facts) origin lies (rest_holds x before after others facts.list h)

  pub assigned_hold : (r : Option Interval) (form : Option Form) (facts : Known) → after 0 ≡ pos 0 → IsBetween r (after x)
      → IfSome form (λ f. after x ≡ before f.var +ℤ f.add) → Hold before facts.list → Hold after (assigned_facts x r form facts).list
  assigned_hold r None facts origin lies is h = left_hold r facts origin lies h
  assigned_hold r (Some f) facts origin lies is h = by (f.var == x) (is_within (2 ^ 50) f.add) refl refl
    where
      left : Known
      left = with_range x r (forgotten x facts)

      above : Fact
      above = record { x = x; y = f.var; c = f.add }

      below : Fact
      below = record { x = f.var; y = x; c = neg_ℤ f.add }

      by : (p w : Bool) → (f.var == x) ≡ p → is_within (2 ^ 50) f.add ≡ w
          → Hold after (if p && w then with_range x r (moved x f.add facts) else (if w then with_fact below (with_fact above left) else left)).list
      by true true e d =
          let grown : after x ≡ before x +ℤ f.add = subst (λ v. after x ≡ before v +ℤ f.add) (same f.var x e) is in
          range_added after x r (moved x f.add facts) origin lies (moved_hold f.add facts grown h)
      by true false e d = left_hold r facts origin lies h
      by false true e d =
          let o : after f.var ≡ before f.var = others f.var (differs f.var x e) in
          fact_added after below (with_fact above left) (omega (arith, ints)) (fact_added after above left (omega (arith, ints)) (left_hold r facts origin lies h))
      by false false e d = left_hold r facts origin lies h

-- a word of an integer type lies in its range
word_lies_in : (f : CType-F CType) (n : ℕ) → is_integer_form f ≡ true → n < (if is_char_form f then 256 else 2 ^ 32) → IsBetween (range_in f) (exact (integer_in f) n)
word_lies_in CType-F.Int n i h = grind (arith, ints)
word_lies_in CType-F.Unsigned n i h = (omega (arith, ints), omega (arith, ints))
word_lies_in CType-F.Char n i h = (omega (arith, ints), omega (arith, ints))
word_lies_in CType-F.Void n i h = absurd (cc)
word_lies_in (CType-F.Struct tag) n i h = absurd (cc)
word_lies_in (CType-F.Pointer k t) n i h = absurd (cc)

pub word_lies : (t : CType) (n : ℕ) → is_integer t ≡ true → IsWordOf t n → IsBetween (range_of t) (exact (integer_of t) n)
word_lies t n i h = word_lies_in (out-CType t) n i h

-- what an integer local stands for
pub integer_value : (l : Local) (n : ℕ) → is_integer l.ctype ≡ true → value_in (Some l) n ≡ exact (integer_of l.ctype) n
integer_value l n i = ap (λ b. if b then exact (integer_of l.ctype) n else pos 0) i

-- what is no integer stands for 0 always
other_value : (l : Local) (n : ℕ) → is_integer l.ctype ≡ false → value_in (Some l) n ≡ pos 0
other_value l n i = ap (λ b. if b then exact (integer_of l.ctype) n else pos 0) i

pub variable_value : (frame : Frame) (locals : List ℕ) (k : ℕ) (l : Local) → local_at frame k ≡ Some l → value frame locals (k + 1) ≡ value_in (Some l) (slice_index locals k)
variable_value frame locals k l there = let next : k + 1 ≡ suc k = omega arith in ap (value frame locals) next ∙ ap (λ o. value_in o (slice_index locals k)) there

-- ---- a new word in a local

module _ (frame : Frame) (locals : List ℕ) (k n : ℕ) where
  abbrev now : List ℕ
  now = slice_set locals k n

  -- the other variables stay
  others_at : (v : ℕ) → v ≢ suc k → value frame now v ≡ value frame locals v
  others_at zero d = refl
  others_at (suc j) d = ap (value_in (local_at frame j)) (get_or-set_other locals k j n 0 (λ e. d (ap suc e)))

  pub others_stay : (v : ℕ) → v ≢ k + 1 → value frame now v ≡ value frame locals v
  others_stay v d = others_at v (λ e. d (omega arith))

  pub new_value : (l : Local) → local_at frame k ≡ Some l → k < length locals → value frame now (k + 1) ≡ value_in (Some l) n
  new_value l there within = variable_value frame now k l there ∙ ap (value_in (Some l)) (get_or-set_same locals k n 0 within)

  by_type : (l : Local) (form : Option Form) (facts : Known) → local_at frame k ≡ Some l → k < length locals → IsWordOf l.ctype n
      → (is_integer l.ctype ≡ true → IfSome form (λ f. value_in (Some l) n ≡ number_of (value frame locals) f)) → AreTrue frame locals facts
      → (b : Bool) → is_integer l.ctype ≡ b → AreTrue frame now (if b then assigned_facts (k + 1) (range_of l.ctype) form facts else facts)
  by_type l form facts there within word is h true e =
      let new = new_value l there within in
      assigned_hold (k + 1) (value frame locals) (value frame now) others_stay (range_of l.ctype) form facts refl
      (subst (IsBetween (range_of l.ctype)) (sym (new ∙ integer_value l n e)) (word_lies l.ctype n e word)) (formed form (is e)) h
    where
      formed : (form : Option Form) → IfSome form (λ f. value_in (Some l) n ≡ number_of (value frame locals) f)
          → IfSome form (λ f. value frame now (k + 1) ≡ value frame locals f.var +ℤ f.add)
      formed None i = tt
      formed (Some f) i = new_value l there within ∙ i
  by_type l form facts there within word is h false e = All-weaker (Satisfies (value frame locals)) (Satisfies (value frame now)) kept facts.list h
    where
      zero_at : (v : ℕ) → value frame now v ≡ value frame locals v
      zero_at v = ⊎_elim
          (λ (p, d). let v_is : v ≡ k + 1 = d in
          subst (λ u. value frame now u ≡ value frame locals u) (sym v_is)
          (new_value l there within ∙ other_value l n e ∙ sym (variable_value frame locals k l there ∙ other_value l (slice_index locals k) e)))
          (λ (p, d). others_stay v d)
          (eqb_tells v (k + 1))

      kept : (f : Fact) → Satisfies (value frame locals) f → Satisfies (value frame now) f
      kept f s = let a = zero_at f.x in let b = zero_at f.y in omega (arith, ints)

  -- Facts are true after an assignment of a word to a local, if its form stands for what the word does.
  pub facts_assigned_hold : (l : Local) (form : Option Form) (at : State) → at.reached ≡ true → local_at frame k ≡ Some l → k < length locals → IsWordOf l.ctype n
      → (is_integer l.ctype ≡ true → IfSome form (λ f. value_in (Some l) n ≡ number_of (value frame locals) f)) → AreTrue frame locals at.facts
      → AreTrue frame now (assigned frame k form at).facts
  facts_assigned_hold l form at reached there within word is h =
      subst (λ (b : Bool). AreTrue frame now (if b then local_assigned frame k (local_at frame k) form at else at).facts) (sym reached)
      (subst (λ o. AreTrue frame now (local_assigned frame k o form at).facts) (sym there)
      (by_type l form at.facts there within word is h (is_integer l.ctype) refl))

-- ---- the head of a loop

module _ (frame : Frame) (locals : List ℕ) (words : HoldWords frame locals) where
  without : (k : ℕ) (l : Local) (facts : Known) → local_at frame k ≡ Some l → AreTrue frame locals facts → (b : Bool) → is_integer l.ctype ≡ b
      → AreTrue frame locals (if b then assigned_facts (k + 1) (range_of l.ctype) None facts else facts)
  without k l facts there h true e =
      left_hold (k + 1) (value frame locals) (value frame locals) (λ v d. refl) (range_of l.ctype) facts refl
      (subst (IsBetween (range_of l.ctype)) (sym (variable_value frame locals k l there ∙ integer_value l (slice_index locals k) e))
      (word_lies l.ctype (slice_index locals k) e (words k l there))) h
  without k l facts there h false e = h

  pub without_local : (k : ℕ) (at : State) (o : Option Local) → local_at frame k ≡ o → AreTrue frame locals at.facts → AreTrue frame locals (local_assigned frame k o None at).facts
  without_local k at None there h = h
  without_local k at (Some l) there h = without k l at.facts there h (is_integer l.ctype) refl

  without_one : (k : ℕ) (at : State) → AreTrue frame locals at.facts → (b : Bool) → AreTrue frame locals (if b then local_assigned frame k (local_at frame k) None at else at).facts
  without_one k at h true = without_local k at (local_at frame k) refl h
  without_one k at h false = h

  pub less_hold : (ks : List ℕ) (at : State) → AreTrue frame locals at.facts → AreTrue frame locals (less frame ks at).facts
  less_hold [] at h = h
  less_hold (k ∷ ks) at h = less_hold ks (assigned frame k None at) (without_one k at h at.reached)

-- ---- where branches join

and_both : (a b : Bool) → (a && b) ≡ true → (a ≡ true) × (b ≡ true)
and_both true b h = (refl, h)
and_both false b h = absurd (cc)

same_says : (value : ℕ → ℤ) (f g : Fact) → same_fact f g ≡ true → Satisfies value g → Satisfies value f
same_says value f g e h =
    let a = and_both (f.x == g.x) ((f.y == g.y) && int_eq f.c g.c) e in
    let b = and_both (f.y == g.y) (int_eq f.c g.c) a.1 in
    let x : value f.x ≡ value g.x = ap value (same f.x g.x a.0) in
    let y : value f.y ≡ value g.y = ap value (same f.y g.y b.0) in
    let c : f.c ≡ g.c = (Decides-int_eq f.c g.c).0 b.1 in
    omega (arith, ints)

some_says : (value : ℕ → ℤ) (f : Fact) (gs : List Fact) → Hold value gs → list_any (same_fact f) gs ≡ true → Satisfies value f
some_says value f [] h e = absurd (cc)
some_says value f (g ∷ gs) h e = ⊎_elim
    (λ p. same_says value f g p (All-head (Satisfies value) g gs h))
    (λ p. some_says value f gs (All-tail (Satisfies value) g gs h) p)
    (one_of (same_fact f g) (list_any (same_fact f) gs) e)

one_in_both : (value : ℕ → ℤ) (f : Fact) (gs : List Fact) (rest : List Fact) → Hold value gs → Hold value rest → (b : Bool) → list_any (same_fact f) gs ≡ b
    → Hold value (cond b (f ∷ rest) rest)
one_in_both value f gs rest h all true e = All-cons (Satisfies value) f rest (some_says value f gs h e) all
one_in_both value f gs rest h all false e = all

pub second_holds : (value : ℕ → ℤ) (fs gs : List Fact) → Hold value gs → Hold value (in_both fs gs)
second_holds value [] gs h = All-nil (Satisfies value)
second_holds value (f ∷ fs) gs h = one_in_both value f gs (in_both fs gs) h (second_holds value fs gs h) (list_any (same_fact f) gs) refl

pub first_holds : (value : ℕ → ℤ) (fs gs : List Fact) → Hold value fs → Hold value (in_both fs gs)
first_holds value fs gs h = All-filter (λ f. list_any (same_fact f) gs) (Satisfies value) fs h

-- ---- the begin of a function

module _ (value' : ℕ → ℤ) (zero_is : value' 0 ≡ pos 0) where
  pub ranges_hold : (x : ℕ) (ls : List Local) (facts : Known) → ((i : ℕ) (l : Local) → slice_get ls i ≡ Some l → IsBetween (range_of l.ctype) (value' (x + i)))
      → Hold value' facts.list → Hold value' (ranges_from x ls facts).list
  ranges_hold x [] facts lies h = h
  ranges_hold x (l ∷ ls) facts lies h =
      ranges_hold (x + 1) ls (with_range x (range_of l.ctype) facts)
      (λ i m there. subst (λ v. IsBetween (range_of m.ctype) (value' v)) (omega arith) (lies (suc i) m there))
      (range_added value' x (range_of l.ctype) facts zero_is (subst (λ v. IsBetween (range_of l.ctype) (value' v)) (omega arith) (lies 0 l refl)) h)

range_any : (t : CType) (z : ℤ) → is_integer t ≡ false → IsBetween (range_of t) z
range_any t z e = by (out-CType t) e
  where
    by : (f : CType-F CType) → is_integer_form f ≡ false → IsBetween (range_in f) z
    by CType-F.Int e = absurd (cc)
    by CType-F.Unsigned e = absurd (cc)
    by CType-F.Char e = absurd (cc)
    by CType-F.Void e = tt
    by (CType-F.Struct tag) e = tt
    by (CType-F.Pointer k t) e = tt

pub entry_holds : (frame : Frame) (locals : List ℕ) → HoldWords frame locals → AreTrue frame locals (ranges frame)
entry_holds frame locals words = ranges_hold (value frame locals) refl 1 frame.locals (record { vars = length frame.locals + 1; list = [] })
    (λ i l there. by i l there (is_integer l.ctype) refl) (All-nil (Satisfies (value frame locals)))
  where
    by : (i : ℕ) (l : Local) → slice_get frame.locals i ≡ Some l → (b : Bool) → is_integer l.ctype ≡ b → IsBetween (range_of l.ctype) (value frame locals (1 + i))
    by i l there true e =
        let next : 1 + i ≡ i + 1 = omega arith in
        let at : value frame locals (1 + i) ≡ exact (integer_of l.ctype) (slice_index locals i) =
        ap (value frame locals) next ∙ variable_value frame locals i l there ∙ integer_value l (slice_index locals i) e in
        subst (IsBetween (range_of l.ctype)) (sym at) (word_lies l.ctype (slice_index locals i) e (words i l there))
    by i l there false e = range_any l.ctype (value frame locals (1 + i)) e
