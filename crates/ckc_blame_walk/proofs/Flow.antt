-- What an assignment, a join and the head of a loop leave of what is known.
use Rattle.std.proofs.Common.{◌≡◌, refl, sym, ap, subst, ◌∙◌, ℕ, ◌+◌, Bool, true, false, List, [], ◌∷◌, ◌++◌, map, ℤ, ◌+ℤ◌, arith}
use Rattle.std.specs.Prelude.{◌&&◌, ◌||◌, ◌==◌, ◌^◌, not, cond, if◌then◌else◌, pos, neg_ℤ, Option, None, Some, IfSome}
use Rattle.std.specs.List.{All, Contains, filter}
use Rattle.std.proofs.lemmas.Int.{ints}
use Rattle.std.proofs.lemmas.List.Elements.{All-nil, All-cons, All-head, All-tail, All-weaker, All-filter, All-map, All-contains, All-contains_itself, filter_passes, Contains-append_right}
use Rattle.ckc_linear.specs.declared.facts.Fact.{Fact}
use Rattle.ckc_linear.specs.declared.forms.Form.{Form}
use Rattle.ckc_linear.specs.Facts.{names, change, shifted}
use Rattle.ckc_typed.specs.Types.{is_integer}
use Rattle.ckc_blame_sound.specs.ckc_bounds_known.specs.declared.intervals.Interval.{Interval}
use Rattle.ckc_blame_sound.specs.ckc_bounds_known.specs.Shown.{Known, is_within}
use Rattle.ckc_blame_sound.specs.ckc_bounds_known.specs.Ranges.{range_of, with_fact, with_range, forgotten}
use Rattle.ckc_blame_sound.specs.ckc_bounds_known.proofs.Reaching.{and_cases}
use Rattle.ckc_blame_sound.specs.ckc_bounds_points.specs.declared.frame.Local.{Local}
use Rattle.ckc_blame_sound.specs.ckc_bounds_points.specs.declared.frame.Frame.{Frame}
use Rattle.ckc_blame_sound.specs.ckc_bounds_points.specs.Frames.{local_at}
use Rattle.ckc_blame_sound.specs.ckc_bounds_points.specs.Flow.{State, stays_small, moved, assigned_facts, widening_names, local_assigned, assigned, less}
use Rattle.ckc_blame_sound.specs.Values.{IsInteger, NamesIntegers}
use Rattle.ckc_blame_walk.specs.Walks.{AreSmall, AreNamed, IsSpared, StaysWide, Stays}
use Rattle.ckc_blame_walk.proofs.Named.{NamesInteger, integer_at}
use Rattle.ckc_blame_walk.proofs.Adds.{HasMore, fact_more, range_more, Adds}

-- ---- lists

pub first_in : {X : Type 0} (x : X) (xs : List X) → Contains (x ∷ xs) x
first_in x xs = (0, omega arith, refl)

pub later_in : {X : Type 0} (y : X) (xs : List X) (x : X) → Contains xs x → Contains (y ∷ xs) x
later_in y xs x c = Contains-append_right (y ∷ []) xs x c

module _ {X : Type 0} (test : X → Bool) where
  passing : (xs : List X) → All (λ x. test x ≡ true → Contains (filter test xs) x) xs
  passing [] = All-nil (λ x. test x ≡ true → Contains [] x)
  passing (y ∷ ys) =
      All-cons (λ x. test x ≡ true → Contains (filter test (y ∷ ys)) x) y ys (λ e. here (test y) e)
      (All-weaker (λ x. test x ≡ true → Contains (filter test ys) x) (λ x. test x ≡ true → Contains (filter test (y ∷ ys)) x) (λ x h e. there (test y) x (h e)) ys (passing ys))
    where
      here : (b : Bool) → b ≡ true → Contains (cond b (y ∷ filter test ys) (filter test ys)) y
      here true e = first_in y (filter test ys)
      here false e = absurd (cc)

      there : (b : Bool) (x : X) → Contains (filter test ys) x → Contains (cond b (y ∷ filter test ys) (filter test ys)) x
      there true x c = later_in y (filter test ys) x c
      there false x c = c

  -- what passes a test is left by it
  pub passes_on : (xs : List X) (x : X) → Contains xs x → test x ≡ true → Contains (filter test xs) x
  passes_on xs x c = All-contains (λ x. test x ≡ true → Contains (filter test xs) x) xs x (passing xs) c

  pub was_in : (xs : List X) (x : X) → Contains (filter test xs) x → Contains xs x
  was_in xs x c = All-contains (Contains xs) (filter test xs) x (All-filter test (Contains xs) xs (All-contains_itself xs)) c

  pub passed_by : (xs : List X) (x : X) → Contains (filter test xs) x → test x ≡ true
  passed_by xs x c = All-contains (λ x. test x ≡ true) (filter test xs) x (filter_passes test xs) c

pub mapped_in : {X Y : Type 0} (f : X → Y) (xs : List X) (x : X) → Contains xs x → Contains (map f xs) (f x)
mapped_in {X = X} f xs x c = All-contains (λ x. Contains (map f xs) (f x)) xs x (all xs) c
  where
    all : (zs : List X) → All (λ x. Contains (map f zs) (f x)) zs
    all [] = All-nil (λ x. Contains (map f []) (f x))
    all (z ∷ zs) =
        All-cons (λ x. Contains (map f (z ∷ zs)) (f x)) z zs (first_in (f z) (map f zs))
        (All-weaker (λ x. Contains (map f zs) (f x)) (λ x. Contains (map f (z ∷ zs)) (f x)) (λ x h. later_in (f z) (map f zs) (f x) h) zs (all zs))

-- ---- what stays known

module _ (frame : Frame) where
  pub stays_adding : (at after : State) → Adds frame at after → Stays frame [] at after
  stays_adding at after h = record {
    reached = λ r. sym h.reached ∙ r;
    facts = λ r f w s c. h.more.facts f c;
    widened = λ r p s c. h.widened p c;
    small = h.more.small;
    named = h.more.named;
  }

  pub stays_none : (ks : List ℕ) (at : State) → Stays frame ks at at
  stays_none ks at = record { reached = λ r. r; facts = λ r f w s c. c; widened = λ r p s c. c; small = λ s. s; named = λ n. n }

  -- Facts are small and name integer locals alone.
  abbrev pub AreTame : Known → Type 0
  AreTame facts = AreSmall facts × AreNamed frame facts

  pub tame_there : (ks : List ℕ) (at after : State) → Stays frame ks at after → AreTame at.facts → AreTame after.facts
  tame_there ks at after h t = (h.small t.0, h.named t.1)

  pub tame_adding : (at after : State) → Adds frame at after → AreTame at.facts → AreTame after.facts
  tame_adding at after h t = (h.more.small t.0, h.more.named t.1)

  pub front : (P : ℕ → Type 0) (ks js : List ℕ) → All P (ks ++ js) → All P ks
  front P [] js h = All-nil P
  front P (k ∷ ks) js h = All-cons P k ks (All-head P k (ks ++ js) h) (front P ks js (All-tail P k (ks ++ js) h))

  pub back : (P : ℕ → Type 0) (ks js : List ℕ) → All P (ks ++ js) → All P js
  back P [] js h = h
  back P (k ∷ ks) js h = back P ks js (All-tail P k (ks ++ js) h)

  pub stays_through : (ks js : List ℕ) (a b c : State) → Stays frame ks a b → Stays frame js b c → Stays frame (ks ++ js) a c
  stays_through ks js a b c h g = record {
    reached = λ r. h.reached (g.reached r);
    facts = λ r f w s d. g.facts r f w (back (IsSpared frame f) ks js s) (h.facts (g.reached r) f w (front (IsSpared frame f) ks js s) d);
    widened = λ r p s d. g.widened r p (back (StaysWide frame p) ks js s) (h.widened (g.reached r) p (front (StaysWide frame p) ks js s) d);
    small = λ s. g.small (h.small s);
    named = λ n. g.named (h.named n);
  }

  -- what names none of more locals names none of these
  pub stays_front : (ks js : List ℕ) (a b : State) → Stays frame ks a b → Stays frame (ks ++ js) a b
  stays_front ks js a b h = record {
    reached = h.reached;
    facts = λ r f w s d. h.facts r f w (front (IsSpared frame f) ks js s) d;
    widened = λ r p s d. h.widened r p (front (StaysWide frame p) ks js s) d;
    small = h.small;
    named = h.named;
  }

  pub stays_back : (ks js : List ℕ) (a b : State) → Stays frame js a b → Stays frame (ks ++ js) a b
  stays_back ks js a b h = record {
    reached = h.reached;
    facts = λ r f w s d. h.facts r f w (back (IsSpared frame f) ks js s) d;
    widened = λ r p s d. h.widened r p (back (StaysWide frame p) ks js s) d;
    small = h.small;
    named = h.named;
  }

-- ---- an assignment

-- A fact that does not name x stays as it is if x grows.
unshifted : (x : ℕ) (c : ℤ) (f : Fact) → names x f ≡ false → shifted x c f ≡ f
unshifted x c f e = by (f.x == x) (f.y == x) e
  where
    none_more : (n : ℤ) → n +ℤ pos 0 ≡ n
    none_more n = omega (arith, ints)

    by : (a b : Bool) → (a || b) ≡ false → ◌≡◌ {A = Fact} (record f { c = f.c +ℤ change a b c }) f
    by true b e = absurd (cc)
    by false true e = absurd (cc)
    by false false e = ap (λ n. record f { c = n }) (none_more f.c)

both_true : (a b : Bool) → a ≡ true → b ≡ true → (a && b) ≡ true
both_true a b p q = cc

not_false : (b : Bool) → b ≡ false → not b ≡ true
not_false true e = absurd (cc)
not_false false e = refl

module _ (frame : Frame) (x : ℕ) (variable : IsInteger frame x) where
  -- facts that do not name x stay, and all are small if they were
  record Leaves (before after : Known) : Type 0 where
    pub facts : (f : Fact) → is_within (2 ^ 50) f.c ≡ true → names x f ≡ false → Contains before.list f → Contains after.list f
    pub small : AreSmall before → AreSmall after
    pub named : AreNamed frame before → AreNamed frame after

  leaves_more : (a b c : Known) → Leaves a b → HasMore frame b c → Leaves a c
  leaves_more a b c h g = record { facts = λ f w n d. g.facts f (h.facts f w n d); small = λ s. g.small (h.small s); named = λ n. g.named (h.named n) }

  forgets : (facts : Known) → Leaves facts (forgotten x facts)
  forgets facts = record {
    facts = λ f w n c. passes_on (λ f. not (names x f)) facts.list f c (not_false (names x f) n);
    small = λ s. All-filter (λ f. not (names x f)) (λ (f : Fact). is_within (2 ^ 50) f.c ≡ true) facts.list s;
    named = λ n. All-filter (λ f. not (names x f)) (NamesIntegers frame) facts.list n;
  }

  moves : (c : ℤ) (facts : Known) → Leaves facts (moved x c facts)
  moves c facts =
      let few = filter (stays_small x c) facts.list in
      record {
        facts = λ f w n d.
            let same : shifted x c f ≡ f = unshifted x c f n in
            let test : stays_small x c f ≡ true = both_true (is_within (2 ^ 50) f.c) (is_within (2 ^ 50) (shifted x c f).c) w (ap (λ (g : Fact). is_within (2 ^ 50) g.c) same ∙ w) in
            subst (Contains (map (shifted x c) few)) same (mapped_in (shifted x c) few f (passes_on (stays_small x c) facts.list f d test));
        small = λ s. All-map (λ (f : Fact). is_within (2 ^ 50) f.c ≡ true) (shifted x c) few
            (All-weaker (λ f. stays_small x c f ≡ true) (λ f. is_within (2 ^ 50) (shifted x c f).c ≡ true)
            (λ f t. (and_cases (is_within (2 ^ 50) f.c) (is_within (2 ^ 50) (shifted x c f).c) t).1) few (filter_passes (stays_small x c) facts.list));
        named = λ n. All-map (NamesIntegers frame) (shifted x c) few (All-filter (stays_small x c) (NamesIntegers frame) facts.list n);
      }

  has_range : (r : Option Interval) → IfSome r (λ i. IsInteger frame x)
  has_range None = tt
  has_range (Some r) = variable

  leaves : (r : Option Interval) (form : Option Form) (facts : Known) → NamesInteger frame form → Leaves facts (assigned_facts x r form facts)
  leaves r None facts i = leaves_more facts (forgotten x facts) (with_range x r (forgotten x facts)) (forgets facts) (range_more frame x r (forgotten x facts) (has_range r))
  leaves r (Some f) facts i = by (f.var == x) (is_within (2 ^ 50) f.add)
    where
      left : Known
      left = with_range x r (forgotten x facts)

      left_leaves : Leaves facts left
      left_leaves = leaves_more facts (forgotten x facts) left (forgets facts) (range_more frame x r (forgotten x facts) (has_range r))

      above : Fact
      above = record { x = x; y = f.var; c = f.add }

      below : Fact
      below = record { x = f.var; y = x; c = neg_ℤ f.add }

      by : (p w : Bool) → Leaves facts (if p && w then with_range x r (moved x f.add facts) else (if w then with_fact below (with_fact above left) else left))
      by true true = leaves_more facts (moved x f.add facts) (with_range x r (moved x f.add facts)) (moves f.add facts) (range_more frame x r (moved x f.add facts) (has_range r))
      by true false = left_leaves
      by false true =
          leaves_more facts (with_fact above left) (with_fact below (with_fact above left))
          (leaves_more facts left (with_fact above left) left_leaves (fact_more frame above left (variable, i))) (fact_more frame below (with_fact above left) (i, variable))
      by false false = left_leaves

module _ (frame : Frame) where
  pub stays_assigned : (k : ℕ) (form : Option Form) (at : State) → NamesInteger frame form → Stays frame (k ∷ []) at (assigned frame k form at)
  stays_assigned k form at i = by at.reached refl
    where
      by_type : (l : Local) → local_at frame k ≡ Some l → (f : Fact) → is_within (2 ^ 50) f.c ≡ true → (is_integer l.ctype ≡ true → names (k + 1) f ≡ false) → Contains at.facts.list f
          → (b : Bool) → is_integer l.ctype ≡ b → Contains (if b then assigned_facts (k + 1) (range_of l.ctype) form at.facts else at.facts).list f
      by_type l there f w n c true e = (leaves frame (k + 1) (integer_at frame k l there e) (range_of l.ctype) form at.facts i).facts f w (n e) c
      by_type l there f w n c false e = c

      small_by : (l : Local) → local_at frame k ≡ Some l → AreSmall at.facts → (b : Bool) → is_integer l.ctype ≡ b
          → AreSmall (if b then assigned_facts (k + 1) (range_of l.ctype) form at.facts else at.facts)
      small_by l there s true e = (leaves frame (k + 1) (integer_at frame k l there e) (range_of l.ctype) form at.facts i).small s
      small_by l there s false e = s

      named_by : (l : Local) → local_at frame k ≡ Some l → AreNamed frame at.facts → (b : Bool) → is_integer l.ctype ≡ b
          → AreNamed frame (if b then assigned_facts (k + 1) (range_of l.ctype) form at.facts else at.facts)
      named_by l there n true e = (leaves frame (k + 1) (integer_at frame k l there e) (range_of l.ctype) form at.facts i).named n
      named_by l there n false e = n

      by_local : (o : Option Local) → local_at frame k ≡ o → at.reached ≡ true → Stays frame (k ∷ []) at (local_assigned frame k o form at)
      by_local None there reached = stays_none frame (k ∷ []) at
      by_local (Some l) there reached = record {
        reached = λ r. r;
        facts = λ r f w s c. by_type l there f w (subst (λ o. IfSome o (λ (l : Local). is_integer l.ctype ≡ true → names (k + 1) f ≡ false)) there (All-head (IsSpared frame f) k [] s)) c (is_integer l.ctype) refl;
        widened = λ r p s c. passes_on (λ p. not (widening_names frame k p)) at.widened p c (not_false (widening_names frame k p)
            (subst (λ o. IfSome o (λ (l : Local). widening_names frame k p ≡ false)) there (All-head (StaysWide frame p) k [] s)));
        small = λ s. small_by l there s (is_integer l.ctype) refl;
        named = λ n. named_by l there n (is_integer l.ctype) refl;
      }

      by : (b : Bool) → at.reached ≡ b → Stays frame (k ∷ []) at (if b then local_assigned frame k (local_at frame k) form at else at)
      by true e = by_local (local_at frame k) refl e
      by false e = stays_none frame (k ∷ []) at

  pub stays_less : (ks : List ℕ) (at : State) → Stays frame ks at (less frame ks at)
  stays_less [] at = stays_none frame [] at
  stays_less (k ∷ ks) at =
      stays_through frame (k ∷ []) ks at (assigned frame k None at) (less frame ks (assigned frame k None at)) (stays_assigned k None at tt) (stays_less ks (assigned frame k None at))
