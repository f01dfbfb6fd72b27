-- The claims of bounds casts that are tested.
use Rattle.std.proofs.Common.{◌≡◌, ◌⊎◌, ⊎_elim, [], ◌++◌, inl, inr, refl, sym, ap, subst, ◌∙◌, ℕ, Bool, true, false, List, arith}
use Rattle.std.specs.Prelude.{◌+ℤ◌, is_some, ◌+◌, ◌==◌, ◌<◌, ◌^◌, ◌&&◌, nat_le, if◌then◌else◌, length, ℤ, pos, negsuc, Option, None, Some, IfSome, Ok}
use Rattle.std.proofs.lemmas.Bool.{and_parts, leb-true}
use Rattle.std.proofs.lemmas.Int.{ints}
use Rattle.ckc_base.specs.declared.places.Pos.{Pos}
use Rattle.ckc_base.specs.declared.runtime_checks.Check.TheVariants as check
use Rattle.ckc_types.specs.declared.types.Kind.{Kind}
use Rattle.ckc_types.specs.declared.types.Kind.TheVariants as kind
use Rattle.ckc_types.specs.declared.types.CType.{CType}
use Rattle.ckc_types.specs.Same.{same_type}
use Rattle.ckc_linear.specs.declared.forms.Form.{Form}
use Rattle.ckc_syntax.specs.declared.tree.Node.{Node-F}
use Rattle.ckc_typed.specs.declared.typed.Range as noted
use Rattle.ckc_typed.specs.declared.typed.Range.TheVariants as range
use Rattle.ckc_typed.specs.Constants.{size_of}
use Rattle.ckc_typed.specs.Conversions.{limits_fit_kind, is_terminated_kind, kind_is_tested, kinds_allow}
use Rattle.ckc_typed.specs.Operands.{is_raw_kind, same_element}
use Rattle.ckc_typed.specs.Trees.{NotedExpr, TypeTree}
use Rattle.ckc_typed.specs.Types.{is_integer, is_object_type, is_pointer, kind_of, element_of}
use Rattle.ckc_blame_sound.specs.ckc_bounds_views.specs.declared.variables.Own.{Own}
use Rattle.ckc_blame_sound.specs.ckc_bounds_views.specs.Judged.{is_missing}
use Rattle.ckc_blame_sound.specs.ckc_bounds_points.specs.Forms.{constant_form, elements, elements_of}
use Rattle.ckc_blame_sound.specs.ckc_bounds_views.specs.Ranges.{form_or_fresh, range_counted}
use Rattle.ckc_blame_sound.specs.ckc_bounds_views.specs.Parts.{LimitsView, NodeView, capped, fresh_behind}
use Rattle.ckc_blame_sound.specs.ckc_bounds_views.specs.Views.{node_view, view}
use Rattle.ckc_blame_sound.specs.ckc_bounds_statements.specs.Paths.{Here}
use Rattle.ckc_source.specs.declared.expr.Integer.{Integer}
use Rattle.ckc_source.specs.declared.expr.Integer.TheVariants.{Int}
use Rattle.ckc_source.specs.declared.expr.Pointee.{Pointee}
use Rattle.ckc_source.specs.declared.outcome.Range.{Range}
use Rattle.ckc_source.specs.declared.outcome.Range.TheVariants.{Within, Without}
use Rattle.ckc_source.specs.declared.outcome.Value.{Value}
use Rattle.ckc_source.specs.Code.{Expr, Number, Tested}
use Rattle.ckc_source.specs.Eval.{Store, plain, ranged, stops, tests_within, tests, evaluated}
use Rattle.ckc_source.specs.Runs.{is_true}
use Rattle.ckc_source.specs.Words.{exact, elements_behind}
use Rattle.ckc_build_values.specs.Kinds.{integer_of, pointee_of, size_behind}
use Rattle.ckc_blame_sound.specs.Settings.{Setting}
use Rattle.ckc_blame_sound.specs.Values.{number_of, IsNumberOf}
use Rattle.ckc_blame_sound.specs.Bodies.{AreFresh}
use Rattle.ckc_blame_sound.specs.Points.{HoldsAt}
use Rattle.ckc_blame_sound.proofs.Flow.{word_lies}
use Rattle.ckc_blame_sound.proofs.Types.{word_wide}
use Rattle.ckc_blame_sound.proofs.Same.{same_equal}
use Rattle.ckc_blame_pointers.specs.Covered.{IsSoundStore}
use Rattle.ckc_blame_pointers.specs.Meant.{IsNotStuck}
use Rattle.ckc_blame_pointers.specs.Valuations.{Valuation, Fits, IsInRange}
use Rattle.ckc_blame_pointers.proofs.Binary.{ExprClaims}
use Rattle.ckc_blame_pointers.proofs.Claims.{IsOne, weaker, both_go_on, nothing_read}
use Rattle.ckc_blame_pointers.proofs.Elements.{at_pointer}
use Rattle.ckc_blame_pointers.proofs.Held.{IsOwnNode}
use Rattle.ckc_blame_pointers.proofs.Later.{extends_self}
use Rattle.ckc_blame_pointers.proofs.Nodes.{NodeClaims}
use Rattle.ckc_blame_pointers.proofs.Numbers.{same_number, one_behind}
use Rattle.ckc_blame_pointers.proofs.Sums.{IsIndex}
use Rattle.ckc_blame_pointers.proofs.Unwidened.{fresh_same}
use Rattle.ckc_blame_pointers.proofs.Own.{IsNullOrRanged, constant_counts, fresh_counts, own_claims, own_between, own_range, range_of_own}
use Rattle.ckc_blame_pointers.proofs.Shorter.{part_true}
use Rattle.ckc_blame_pointers.proofs.Truths.{true_bare}

-- ---- types

-- A pointer of the second type may point to what one of the first may, which is no unchecked pointer.
pub record IsLooser (t r : CType) : Type 0 where
  pub element : element_of r ≡ element_of t
  pub ends : is_terminated_kind (kind_of r) ≡ true → is_terminated_kind (kind_of t) ≡ true
  pub checked : is_raw_kind (kind_of t) ≡ false

ends_by : (j k : Option Kind) → kinds_allow kind_is_tested j k ≡ true → is_terminated_kind k ≡ true → is_terminated_kind j ≡ true
ends_by (Some kind.Nt) (Some k) e ends = refl
ends_by (Some kind.Raw) (Some k) e ends = absurd (cc)
ends_by (Some kind.One) (Some kind.Nt) e ends = absurd (cc)
ends_by (Some kind.One) (Some kind.Raw) e ends = absurd (cc)
ends_by (Some kind.One) (Some kind.One) e ends = absurd (cc)
ends_by (Some kind.One) (Some kind.Arr) e ends = absurd (cc)
ends_by (Some kind.Arr) (Some kind.Nt) e ends = absurd (cc)
ends_by (Some kind.Arr) (Some kind.Raw) e ends = absurd (cc)
ends_by (Some kind.Arr) (Some kind.One) e ends = absurd (cc)
ends_by (Some kind.Arr) (Some kind.Arr) e ends = absurd (cc)
ends_by (Some j) None e ends = absurd (cc)
ends_by None k e ends = absurd (cc)

checked_by : (j k : Option Kind) → kinds_allow kind_is_tested j k ≡ true → is_raw_kind j ≡ false
checked_by (Some kind.Raw) (Some k) e = absurd (cc)
checked_by (Some kind.Raw) None e = absurd (cc)
checked_by (Some kind.One) k e = refl
checked_by (Some kind.Arr) k e = refl
checked_by (Some kind.Nt) k e = refl
checked_by None k e = refl

pub tested_looser : (t r : CType) → same_element r t ≡ true → kinds_allow kind_is_tested (kind_of t) (kind_of r) ≡ true → IsLooser t r
tested_looser t r same kinds =
    let p = and_parts (is_pointer r) (is_pointer t && same_type (element_of r) (element_of t)) same in
    let q = and_parts (is_pointer t) (same_type (element_of r) (element_of t)) p.1 in
    record { element = same_equal (element_of r) (element_of t) q.1; ends = ends_by (kind_of t) (kind_of r) kinds; checked = checked_by (kind_of t) (kind_of r) kinds }

module _ (s : Setting) (store : Store) (t r : CType) (c : IsLooser t r) where
  looser_true : (n low high : ℕ) → is_true store.shapes store.blocks (pointee_of s.text.layout t) n low high ≡ true → is_true store.shapes store.blocks (pointee_of s.text.layout r) n low high ≡ true
  looser_true n low high e =
      subst (λ q. is_true store.shapes store.blocks (record { element = q; size = size_of s.text.layout q; terminated = is_terminated_kind (kind_of r) }) n low high ≡ true) (sym c.element) (by (is_terminated_kind (kind_of r)) c.ends)
    where
      by : (b : Bool) → (b ≡ true → is_terminated_kind (kind_of t) ≡ true)
          → is_true store.shapes store.blocks (record { element = element_of t; size = size_behind s.text.layout t; terminated = b }) n low high ≡ true
      by true ends = subst (λ b. is_true store.shapes store.blocks (record { element = element_of t; size = size_behind s.text.layout t; terminated = b }) n low high ≡ true) (ends refl) e
      by false ends = true_bare (element_of t) (size_behind s.text.layout t) (is_terminated_kind (kind_of t)) n low high store.shapes store.blocks e

-- ---- the operand

-- What is tested is null, or its range is true for the new type.
abbrev pub IsTestable : Setting → Store → CType → Value → Type 0
IsTestable s store r x =
    (x.number ≡ 0) ⊎ ((low : ℕ) × (high : ℕ) × (x.range ≡ Within low high) × (is_true store.shapes store.blocks (pointee_of s.text.layout r) x.number low high ≡ true))

module _ (s : Setting) (store : Store) (entry : List ℕ) (next : ℕ) (ready : IsSoundStore s store next) (here : Here) (h : HoldsAt s store entry here) (e : NotedExpr) (fresh : ℕ) (few : (view s.frame e).values + 1 < 2 ^ 32)
    (little : fresh + length ((view s.frame e).fresh here.at) < 2 ^ 32) (are : AreFresh s.frame fresh) (r : CType) (x : Value) (c : ExprClaims s store entry here e x) where
  abbrev after : Valuation
  after = (at_pointer s store entry next ready here h e fresh few little are x c).after

  in_range : IsInRange s store after e.note.ctype ((view s.frame e).range 0 fresh here.at) x
  in_range = (at_pointer s store entry next ready here h e fresh few little are x c).range_is after (extends_self (0 + (view s.frame e).values) (fresh_behind (view s.frame e) fresh here.at) after)

  pub null_testable : (view s.frame e).range 0 fresh here.at ≡ range.Any → IsTestable s store r x
  null_testable any = inl (subst (λ q. IsInRange s store after e.note.ctype q x) any in_range)

  pub known_testable : IsLooser e.note.ctype r → is_missing ((view s.frame e).range 0 fresh here.at) ≡ false → IsTestable s store r x
  known_testable looser known = by ((view s.frame e).range 0 fresh here.at) known in_range
    where
      by : (q : noted.Range) → is_missing q ≡ false → IsInRange s store after e.note.ctype q x → IsTestable s store r x
      by range.Missing m i = absurd (cc)
      by range.Any m i = inl i
      by (range.Known low high) m (inl z) = inl z
      by (range.Known low high) m (inr g) = inr (g.from, g.to, g.range looser.checked, looser_true s store e.note.ctype r looser x.number g.from g.to g.true_there)

-- ---- the cast

-- A number c of a type is that of the elements that a form says, in which a fresh variable of the cast itself may stand,
-- and one if the cast is to a `_Ptr`.
pub record IsSize (s : Setting) (store : Store) (r : CType) (form : Integer) (needs : Option CType) (number : ℕ → Form) (c : Value) : Type 0 where
  pub typed : IfSome needs (λ u. IsNumberOf u (exact form c.number))
  pub counts : (k : ℕ) (v : Valuation) → Fits s.frame store.locals v → IfSome needs (λ u. v.numbers (capped k 1) ≡ exact form c.number) → number_of v.numbers (number k) ≡ exact form c.number
  pub single : kind_of r ≡ Some kind.One → exact form c.number ≡ pos 1

-- A cast to a type is a pointer that stands for itself, and has as many elements as an expression of a type comes to.
pub record IsSized (s : Setting) (store : Store) (here : Here) (r : CType) (made : NodeView) (form : Integer) (w : Expr) : Type 0 where
  pub needs : Option CType
  pub number : ℕ → Form
  pub node : IsOwnNode here r (range_of_own number) needs made
  pub size : IsNotStuck (IsSize s store r form needs number) (evaluated store w)

module _ (s : Setting) (store : Store) (entry : List ℕ) (here : Here) (h : HoldsAt s store entry here) (r : CType) (pointer : is_pointer r ≡ true) (made : NodeView) (form : Integer) (w : Expr)
    (sized : IsSized s store here r made form w) where
  abbrev Made : Value → Type 0
  Made = NodeClaims s store entry here h r made

  abbrev to : Pointee
  to = pointee_of s.text.layout r

  one_there : (x : Value) (z : ℤ) → IsNullOrRanged store to z x → (kind_of r ≡ Some kind.One → z ≡ pos 1) → IsOne s store entry r x.number
  one_there x z there single ones one = by there
    where
      by : IsNullOrRanged store to z x → (x.number ≡ 0) ⊎ (is_true store.shapes store.blocks to x.number x.number (x.number + to.size) ≡ true)
      by (inl null) = inl null
      by (inr g) =
          let from : g.from ≡ x.number = same_number g.from x.number g.low_is in
          let upto : g.upto ≡ x.number + to.size = same_number g.upto (x.number + to.size) (g.high_is ∙ ap (elements_behind x.number to.size) (single one) ∙ one_behind x.number to.size) in
          inr (subst (λ a. is_true store.shapes store.blocks to x.number a (x.number + to.size) ≡ true) from
          (subst (λ b. is_true store.shapes store.blocks to x.number g.from b ≡ true) upto g.true_there))

  -- what is null, or in range of so many elements
  pub cast_comes : (x c : Value) → IsSize s store r form sized.needs sized.number c → x.number < 2 ^ 32 → IsNullOrRanged store to (exact form c.number) x → Made x
  cast_comes x c d small there =
      own_claims s store entry here h r pointer made node.alone node.known node.nowhere node.kept (range_of_own sized.number) node.ranged (own_between sized.number) x (exact form c.number) node.behind node.some node.quiet small
      (subst (λ (o : Option CType). IfSome o (λ u. IsNumberOf u (exact form c.number))) (sym node.needs) d.typed)
      (subst (λ (o : Option CType). (own : Own) (v : Valuation) → Fits s.frame store.locals v → v.addresses own.value ≡ x.number → IfSome o (λ u. v.numbers (capped own.fresh 1) ≡ exact form c.number)
      → IsInRange s store v r (range_of_own sized.number own) x) (sym node.needs) (own_range s store r x (exact form c.number) (exact form c.number) there sized.needs sized.number d.counts))
      (one_there x (exact form c.number) there d.single)
    where
      node : IsOwnNode here r (range_of_own sized.number) sized.needs made
      node = sized.node

  module _ (e : NotedExpr) (place : Pos) (v : Expr) (left : IsNotStuck (ExprClaims s store entry here e) (evaluated store v))
      (able : (x : Value) → evaluated store v ≡ Ok x → ExprClaims s store entry here e x → IsTestable s store r x) where
    goes : (x c : Value) → IsSize s store r form sized.needs sized.number c → x.number < 2 ^ 32 → IsTestable s store r x → IsNotStuck Made (tests to.size form place x c.number)
    goes x c d small able = by (x.number == 0) refl
      where
        z : ℤ
        z = exact form c.number

        within : (low high : ℕ) → is_true store.shapes store.blocks to x.number low high ≡ true → (y : ℤ) → elements_behind x.number to.size z ≡ y → IsNotStuck Made (tests_within (Within low high) place x.number y)
        within low high there (pos upper) at = test (nat_le low x.number && nat_le x.number upper && nat_le upper high) refl
          where
            test : (b : Bool) → (nat_le low x.number && nat_le x.number upper && nat_le upper high) ≡ b → IsNotStuck Made (if b then ranged x.number x.number upper else stops check.Cast place)
            test true e =
                let p = and_parts (nat_le low x.number && nat_le x.number upper) (nat_le upper high) e in
                let q = and_parts (nat_le low x.number) (nat_le x.number upper) p.0 in
                cast_comes (record { number = x.number; range = Within x.number upper }) c d small (inr (record {
                  from = x.number;
                  upto = upper;
                  range = refl;
                  low_is = refl;
                  high_is = sym at;
                  true_there = part_true store.shapes to x.number low high store.blocks there upper z (leb-true low x.number q.0) (leb-true x.number upper q.1) (leb-true upper high p.1) (sym at);
                }))
            test false e = tt
        within low high there (negsuc m) at = tt

        by : (b : Bool) → (x.number == 0) ≡ b → IsNotStuck Made (if b then plain 0 else tests_within x.range place x.number (elements_behind x.number to.size z))
        by true e = cast_comes (record { number = 0; range = Without }) c d (omega arith) (inl refl)
        by false e = ⊎_elim (λ null. let same : (x.number == 0) ≡ true = ap (λ n. n == 0) null in absurd (cc))
            (λ q. subst (λ (a : Range). IsNotStuck Made (tests_within a place x.number (elements_behind x.number to.size z))) (sym q.2) (within q.0 q.1 q.3 (elements_behind x.number to.size z) refl)) able

    pub tested_claims : IsNotStuck Made (evaluated store (Tested (size_behind s.text.layout r) form place v w))
    tested_claims =
        both_go_on (ExprClaims s store entry here e) (IsSize s store r form sized.needs sized.number) Made (evaluated store v) (evaluated store w) (λ x c. tests to.size form place x c.number) left sized.size
        (λ x c is there p d. goes x c d (word_wide e.note.ctype x.number p.word) (able x is p))

-- ---- limits

-- A bounds cast with limits is not to a `_Ptr`.
pub no_limits : (u t : CType) → t ≡ u → (is_object_type u && limits_fit_kind (kind_of u) true) ≡ true → kind_of t ≡ Some kind.One → ⊥
no_limits u t same fit one =
    let fits = (and_parts (is_object_type u) (limits_fit_kind (kind_of u) true) fit).1 in
    let other : limits_fit_kind (kind_of u) true ≡ false = ap (λ k. limits_fit_kind k true) (ap kind_of (sym same) ∙ one) in
    absurd (cc)

-- bytes of elements of one byte
pub whole_elements : (n : ℕ) → n ≡ 1 → (o : Option Form) → elements n o ≡ o
whole_elements n one None = refl
whole_elements n one (Some f) = ap (λ n. if n == 1 then Some f else elements_of n f) one

-- the type of the fresh variable that an amount needs
abbrev Needed : NotedExpr → Option Form → Option CType
Needed f a = if is_some a then None else Some f.note.ctype

-- A cast with limits that count an amount is a pointer that stands for itself.
pub counted_own : (s : Setting) (here : Here) (x : TypeTree) (e : NotedExpr) (t : CType) (f : NotedExpr) (l : LimitsView) → ((widened : List ℕ) → l.fresh (record here.at { widened = widened }) ≡ l.fresh here.at)
    → l.counted ≡ Some f.note.ctype → (a : Option Form) → l.amount (size_of s.frame.structs (element_of t)) here.at.facts ≡ a
    → IsOwnNode here t (range_of_own (λ k. form_or_fresh a k)) (Needed f a) (node_view s.frame (Node-F.Tested x (view s.frame e) (Some l)))
counted_own s here x e t f l same counted a amount = record {
  alone = refl;
  known = refl;
  nowhere = λ first facts. refl;
  kept = λ widened.
      ap (λ ts. ts ++ l.fresh (record here.at { widened = widened })) (fresh_same s.frame e here.at widened) ∙ ap (λ ts. (view s.frame e).fresh here.at ++ ts) (same widened);
  ranged = λ own first fresh widened.
      ap (λ c. range_counted c (l.amount (size_of s.frame.structs (element_of t)) here.at.facts) own) counted ∙ ap (λ a. range_counted (Some f.note.ctype) a own) amount;
  needs = ap (λ (a : Option Form). if is_some a then None else l.counted) amount ∙ ap (λ (c : Option CType). if is_some a then None else c) counted;
  behind = refl;
  some = refl;
  quiet = quiet;
}
  where
    quiet : (b : Bool) → (node_view s.frame (Node-F.Tested x (view s.frame e) (Some l))).side b here.at ≡ here.at
    quiet true = refl
    quiet false = refl

module _ (s : Setting) (store : Store) (entry : List ℕ) (here : Here) (x : TypeTree) (e : NotedExpr) (t : CType) where
  -- one element, of a `_Ptr`
  pub one_sized : IsSized s store here t (node_view s.frame (Node-F.Tested x (view s.frame e) None)) Int (Number 1)
  one_sized = record {
    needs = None;
    number = λ k. constant_form (pos 1);
    node = record {
      alone = refl;
      known = refl;
      nowhere = λ first facts. refl;
      kept = λ widened. ap (λ ts. ts ++ []) (fresh_same s.frame e here.at widened);
      ranged = λ own first fresh widened. refl;
      needs = refl;
      behind = refl;
      some = refl;
      quiet = λ b. nothing_read s store entry (λ facts. None) b here.at;
    };
    size = record { typed = tt; counts = λ k v fits number. constant_counts s store.locals None (pos 0) (pos 1) k v fits tt; single = λ one. refl };
  }

  -- as many elements as an expression says
  module _ (f : NotedExpr) (l : LimitsView) (same : (widened : List ℕ) → l.fresh (record here.at { widened = widened }) ≡ l.fresh here.at) (counted : l.counted ≡ Some f.note.ctype) (w : Expr)
      (integer : is_integer f.note.ctype ≡ true) (right : IsNotStuck (ExprClaims s store entry here f) (evaluated store w))
      (index : (c : Value) → evaluated store w ≡ Ok c → IsIndex s store entry here (exact (integer_of f.note.ctype) c.number) (view s.frame f).form)
      (amount : l.amount (size_of s.frame.structs (element_of t)) here.at.facts ≡ (view s.frame f).form here.at.facts) (several : kind_of t ≡ Some kind.One → ⊥) where
    abbrev z : Value → ℤ
    z c = exact (integer_of f.note.ctype) c.number

    needed_typed : (a : Option Form) (c : Value) → ExprClaims s store entry here f c → IfSome (Needed f a) (λ u. IsNumberOf u (z c))
    needed_typed (Some g) c p = tt
    needed_typed None c p = word_lies f.note.ctype c.number integer p.word

    counts : (a : Option Form) → (view s.frame f).form here.at.facts ≡ a → (c : Value) → evaluated store w ≡ Ok c → (k : ℕ) (v : Valuation) → Fits s.frame store.locals v
        → IfSome (Needed f a) (λ u. v.numbers (capped k 1) ≡ z c) → number_of v.numbers (form_or_fresh a k) ≡ z c
    counts (Some g) is c there k v fits number = sym (index c there v fits here.at.facts (inl refl) g is)
    counts None is c there k v fits number = fresh_counts f.note.ctype (z c) (pos 0) k v number ∙ none (z c)
      where
        none : (z : ℤ) → z +ℤ pos 0 ≡ z
        none z = omega (arith, ints)

    pub counted_sized : IsSized s store here t (node_view s.frame (Node-F.Tested x (view s.frame e) (Some l))) (integer_of f.note.ctype) w
    counted_sized = by_amount ((view s.frame f).form here.at.facts) refl
      where
        by_amount : (a : Option Form) → (view s.frame f).form here.at.facts ≡ a → IsSized s store here t (node_view s.frame (Node-F.Tested x (view s.frame e) (Some l))) (integer_of f.note.ctype) w
        by_amount a is = record {
          needs = Needed f a;
          number = λ k. form_or_fresh a k;
          node = counted_own s here x e t f l same counted a (amount ∙ is);
          size = weaker (evaluated store w) right (λ c there p. record { typed = needed_typed a c p; counts = counts a is c there; single = λ one. absurd (several one) });
        }

-- a tested cast to one element, of a `_Ptr`
pub one_claims : (s : Setting) (store : Store) (entry : List ℕ) (here : Here) (h : HoldsAt s store entry here) (x : TypeTree) (e : NotedExpr) (t : CType) → is_pointer t ≡ true → (place : Pos) (v : Expr)
    → IsNotStuck (ExprClaims s store entry here e) (evaluated store v) → ((x : Value) → evaluated store v ≡ Ok x → ExprClaims s store entry here e x → IsTestable s store t x)
    → IsNotStuck (NodeClaims s store entry here h t (node_view s.frame (Node-F.Tested x (view s.frame e) None))) (evaluated store (Tested (size_behind s.text.layout t) Int place v (Number 1)))
one_claims s store entry here h x e t pointer place v left able =
    tested_claims s store entry here h t pointer (node_view s.frame (Node-F.Tested x (view s.frame e) None)) Int (Number 1) (one_sized s store entry here x e t) e place v left able
