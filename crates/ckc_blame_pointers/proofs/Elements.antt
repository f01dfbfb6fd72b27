-- The claims of `*p` and `p[e]`, where an integer is read.
use Rattle.std.proofs.Common.{◌≡◌, ◌⊎◌, inl, inr, refl, sym, ap, subst, ◌∙◌, ℕ, Bool, true, false, List, arith}
use Rattle.std.specs.Prelude.{◌+◌, ◌==◌, ◌<◌, ◌^◌, ◌&&◌, not, length, if◌then◌else◌, ℤ, pos, IfSome, Option, None, Some, Ok}
use Rattle.ckc_base.specs.declared.places.Pos.{Pos}
use Rattle.ckc_types.specs.declared.types.Kind.{Kind}
use Rattle.ckc_types.specs.declared.types.Kind.TheVariants as kind
use Rattle.ckc_types.specs.declared.types.CType.{CType}
use Rattle.ckc_linear.specs.declared.forms.Form.{Form}
use Rattle.ckc_typed.specs.declared.typed.Range.{Range}
use Rattle.ckc_typed.specs.declared.typed.Range.TheVariants as range
use Rattle.ckc_typed.specs.Operands.{is_raw_kind}
use Rattle.ckc_typed.specs.Trees.{NotedExpr}
use Rattle.ckc_typed.specs.Types.{is_integer, kind_of, element_of}
use Rattle.ckc_blame_sound.specs.ckc_bounds_points.specs.Codes.{unknown_bounds}
use Rattle.ckc_blame_sound.specs.ckc_bounds_views.specs.Conditions.{wider, widened_by, read_place, widening, widening_side}
use Rattle.ckc_blame_sound.specs.ckc_bounds_views.specs.Judged.{is_counted_kind, is_missing, fault_if, access_fault}
use Rattle.ckc_blame_sound.specs.ckc_bounds_points.specs.Shown.{Known}
use Rattle.ckc_blame_sound.specs.ckc_bounds_points.specs.Flow.{State}
use Rattle.ckc_blame_sound.specs.ckc_bounds_views.specs.Parts.{NodeView, fresh_behind}
use Rattle.ckc_blame_sound.specs.ckc_bounds_views.specs.Places.{with_own}
use Rattle.ckc_blame_sound.specs.ckc_bounds_views.specs.Views.{view}
use Rattle.ckc_blame_sound.specs.ckc_bounds_statements.specs.Paths.{Here}
use Rattle.ckc_source.specs.declared.expr.Access.{Access}
use Rattle.ckc_source.specs.declared.expr.Integer.{Integer}
use Rattle.ckc_source.specs.declared.outcome.Range.TheVariants.{Within, Without}
use Rattle.ckc_source.specs.declared.outcome.Value.{Value}
use Rattle.ckc_source.specs.Blocks.{loaded}
use Rattle.ckc_source.specs.Code.{Expr, Load}
use Rattle.ckc_source.specs.Eval.{Store, plain, given, element, place_in, loads, evaluated}
use Rattle.ckc_build_values.specs.Kinds.{width_of, through_kind, pointee_of, size_behind}
use Rattle.ckc_blame_sound.specs.Settings.{Setting}
use Rattle.ckc_blame_sound.specs.Cells.{IsPart}
use Rattle.ckc_blame_sound.specs.Values.{value, IsWordOf}
use Rattle.ckc_blame_sound.specs.Points.{AreBounded, HoldsAt}
use Rattle.ckc_blame_sound.proofs.Types.{no_pointer}
use Rattle.ckc_blame_sound.specs.Typed.{Agrees}
use Rattle.ckc_typed.specs.declared.environment.Globals.{Globals}
use Rattle.ckc_source.specs.Words.{exact, elements_behind}
use Rattle.ckc_blame_sound.specs.Bodies.{AreFresh}
use Rattle.ckc_blame_pointers.specs.Valuations.{Valuation, Fits, address_by, IsAtPlace, HasEnds, IsInRange}
use Rattle.ckc_blame_pointers.specs.Covered.{DeclareLocals, IsSoundStore}
use Rattle.ckc_blame_pointers.specs.Meant.{IsNotStuck}
use Rattle.ckc_blame_pointers.proofs.Claims.{IsOfLocal, Placed, SideGoes, no_one, both_go_on, stays, not_placed}
use Rattle.ckc_blame_pointers.proofs.Nodes.{node_fresh, NodeClaims}
use Rattle.ckc_blame_pointers.proofs.Binary.{ExprClaims, wider_goes}
use Rattle.ckc_blame_pointers.proofs.Numbers.{nothing_behind}
use Rattle.ckc_blame_pointers.proofs.Moving.{sum_at, sum_base}
use Rattle.ckc_blame_pointers.proofs.Later.{extends_self, still_fits}
use Rattle.ckc_blame_pointers.proofs.Sums.{IsIndex}
use Rattle.ckc_blame_sound.proofs.Claims.{plain_is}
use Rattle.ckc_source.specs.declared.expr.Integer.TheVariants.{Int}
use Rattle.ckc_blame_sound.specs.ckc_bounds_points.specs.Forms.{sum_of_forms}
use Rattle.ckc_blame_pointers.proofs.Wider.{place_widens}
use Rattle.ckc_blame_pointers.proofs.Loads.{integer_part, element_is, IsTested, element_goes, reached_by, tested_pointer, part_loads}

-- A pointer that is tested against its range is no unchecked one.
pub counted_checked : (k : Option Kind) → is_counted_kind k ≡ true → is_raw_kind k ≡ false
counted_checked (Some kind.Arr) e = refl
counted_checked (Some kind.Nt) e = refl
counted_checked (Some kind.One) e = refl
counted_checked (Some kind.Raw) e = absurd (cc)
counted_checked None e = refl

pub no_fault : (b : Bool) (spot : Pos) → fault_if (true && b) unknown_bounds spot ≡ None → b ≡ false
no_fault true spot e = absurd (cc)
no_fault false spot e = refl

-- the valuation that says nothing of values
abbrev pub bare_valuation : Setting → List ℕ → Valuation
bare_valuation s locals = record { numbers = value s.frame locals; addresses = λ n. 0 }

module _ (s : Setting) (store : Store) (entry : List ℕ) (next : ℕ) (ready : IsSoundStore s store next) (here : Here) (h : HoldsAt s store entry here) where
  read_sides : (n : NodeView) (m : ℕ) → ((m == 0) ≡ false → AreBounded s store (widening s.frame n.behind (n.target 0 here.at.facts) here.at).widened here.seen) → (b : Bool) → (m == 0) ≡ not b
      → SideGoes s store entry here (widening_side s.frame n.behind (n.target 0) b here.at)
  read_sides n m wide true side = wider_goes s store entry here h (widened_by s.frame (read_place n.behind (n.target 0 here.at.facts))) (wide side)
  read_sides n m wide false side = stays s store entry here h

  -- an integer that is read
  pub integer_read : (t : CType) (n : NodeView) → is_integer t ≡ true → n.null ≡ false → n.is_zero ≡ false → ((b : Bool) → n.side b here.at ≡ widening_side s.frame n.behind (n.target 0) b here.at) → (m : ℕ) → IsWordOf t m
      → ((m == 0) ≡ false → AreBounded s store (widening s.frame n.behind (n.target 0 here.at.facts) here.at).widened here.seen)
      → NodeClaims s store entry here h t n (record { number = m; range = Without })
  integer_read t n integer known some same m word bounded = record {
    word = word;
    placed = λ first fresh before low little are fits.
        not_placed s store entry here t n (first + with_own t n) (node_fresh t n here.at) first fresh before (record { number = m; range = Without }) (no_pointer t integer) (λ e. absurd (cc)) little are fits;
    one = no_one s store entry t m (no_pointer t integer);
    zero = λ e. absurd (cc);
    wide = bounded;
    sides = λ b side. subst (SideGoes s store entry here) (sym (same b)) (read_sides n m bounded b side);
  }

  module _ (e : NotedExpr) (fresh : ℕ) (few : (view s.frame e).values + 1 < 2 ^ 32) (little : fresh + length ((view s.frame e).fresh here.at) < 2 ^ 32) (are : AreFresh s.frame fresh) where
    -- where the pointer is, in numbers that begin with the least
    pub at_pointer : (x : Value) → ExprClaims s store entry here e x
        → Placed s store entry here e.note.ctype (0 + (view s.frame e).values) ((view s.frame e).place 0) ((view s.frame e).range 0 fresh) ((view s.frame e).fresh here.at) 0 fresh (bare_valuation s store.locals) x
    at_pointer x c = c.placed 0 fresh (bare_valuation s store.locals) (from_zero (view s.frame e).values few) little are (λ y known. refl)
      where
        from_zero : (n : ℕ) → n + 1 < 2 ^ 32 → 0 + n + 1 < 2 ^ 32
        from_zero n h = omega arith

    pub fits_pointer : (x : Value) (c : ExprClaims s store entry here e x) → Fits s.frame store.locals (at_pointer x c).after
    fits_pointer x c = still_fits s store.locals 0 fresh (bare_valuation s store.locals) (at_pointer x c).after are (λ y known. refl) (at_pointer x c).extends

    place_there : (x : Value) (c : ExprClaims s store entry here e x) → IsAtPlace s store.locals (at_pointer x c).after e.note.ctype ((view s.frame e).place 0 here.at.facts) x.number
    place_there x c = (at_pointer x c).place_in (at_pointer x c).after (extends_self (0 + (view s.frame e).values) (fresh_behind (view s.frame e) fresh here.at) (at_pointer x c).after) here.at.facts (inl refl)

    -- what `*` reads lies where the pointer's place says
    pub target_aims : (x : Value) (c : ExprClaims s store entry here e x) (k : Value) → plain 0 ≡ Ok k → (a : ℕ) → pos a ≡ elements_behind x.number (size_behind s.text.layout e.note.ctype) (exact Int k.number)
        → (f : Form) → (view s.frame e).place 0 here.at.facts ≡ Some f
        → (pos a ≡ address_by s store.locals (at_pointer x c).after (size_behind s.text.layout e.note.ctype) f) × IsOfLocal s e.note.ctype f.base
    target_aims x c k zero a is f there =
        let none : k.number ≡ 0 = plain_is 0 k zero in (
          is ∙ ap (λ n. elements_behind x.number (size_behind s.text.layout e.note.ctype) (exact Int n)) none ∙ nothing_behind x.number (size_behind s.text.layout e.note.ctype)
              ∙ subst (λ o. IsAtPlace s store.locals (at_pointer x c).after e.note.ctype o x.number) there (place_there x c),
          subst (λ (o : Option Form). IfSome o (λ f. IsOfLocal s e.note.ctype f.base)) there ((at_pointer x c).of_local here.at.facts),
        )

    -- and what `[` reads so many elements behind it
    pub element_aims : (x : Value) (c : ExprClaims s store entry here e x) (z : ℤ) (form : Known → Option Form) → IsIndex s store entry here z form → (a : ℕ)
        → pos a ≡ elements_behind x.number (size_behind s.text.layout e.note.ctype) z → (raw : Bool) → raw ≡ false
        → (f : Form) → (if raw then None else sum_of_forms ((view s.frame e).place 0 here.at.facts) (form here.at.facts)) ≡ Some f
        → (pos a ≡ address_by s store.locals (at_pointer x c).after (size_behind s.text.layout e.note.ctype) f) × IsOfLocal s e.note.ctype f.base
    element_aims x c z form index a is true checked f e' = absurd (cc)
    element_aims x c z form index a is false checked f e' = (
      sum_at s store.locals e.note.ctype (at_pointer x c).after (fits_pointer x c 0 (inl refl)) x.number z a is ((view s.frame e).place 0 here.at.facts) (form here.at.facts) f (place_there x c)
          (index (at_pointer x c).after (fits_pointer x c) here.at.facts (inl refl)) e',
      sum_base (IsOfLocal s e.note.ctype) ((view s.frame e).place 0 here.at.facts) (form here.at.facts) f ((at_pointer x c).of_local here.at.facts) e',
    )

    -- the range of a pointer that is read through is true, unless that is null
    unfoldable pub IsRanged : Value → Type 0
    IsRanged x = (x.number ≡ 0) ⊎ ((v : Valuation) × (low : Form) × (high : Form) × HasEnds s store v e.note.ctype low high x)

    pub ranged_pointer : (spot : Pos) → is_counted_kind (kind_of (view s.frame e).ctype) ≡ true → access_fault (view s.frame e) spot fresh here.at ≡ None → (x : Value) → ExprClaims s store entry here e x → IsRanged x
    unfolding IsRanged
    ranged_pointer spot counted none x c =
        by ((view s.frame e).range 0 fresh here.at) (no_fault (is_missing ((view s.frame e).range 0 fresh here.at)) spot (sym (ap (λ b. fault_if (b && is_missing ((view s.frame e).range 0 fresh here.at)) unknown_bounds spot) counted) ∙ none))
        ((at_pointer x c).range_is (at_pointer x c).after (extends_self (0 + (view s.frame e).values) (fresh_behind (view s.frame e) fresh here.at) (at_pointer x c).after))
      where
        by : (r : Range) → is_missing r ≡ false → IsInRange s store (at_pointer x c).after e.note.ctype r x → (x.number ≡ 0) ⊎ ((v : Valuation) × (low : Form) × (high : Form) × HasEnds s store v e.note.ctype low high x)
        by range.Missing m i = absurd (cc)
        by range.Any m i = inl i
        by (range.Known low high) m (inl z) = inl z
        by (range.Known low high) m (inr g) = inr ((at_pointer x c).after, low, high, g)

    module _ (place : Pos) (index : Integer) (v w : Expr) (R : Value → Type 0) (left : IsNotStuck (ExprClaims s store entry here e) (evaluated store v)) (right : IsNotStuck R (evaluated store w))
        (counted : is_counted_kind (kind_of e.note.ctype) ≡ true) (ranged : (x : Value) → ExprClaims s store entry here e x → IsRanged x)
        (offset : ℕ) (u : CType) (part : IsPart s.text.layout (element_of e.note.ctype) offset (width_of u)) where
      abbrev access : Access
      access = record { through = through_kind (kind_of e.note.ctype); at = place; size = size_behind s.text.layout e.note.ctype; index = index; offset = offset }

      -- what is not zero widens
      abbrev pub Widens : NodeView → Type 0
      Widens n = (x k : Value) → evaluated store v ≡ Ok x → evaluated store w ≡ Ok k → ExprClaims s store entry here e x → R k → (a m : ℕ) → element access x k.number ≡ Ok a
          → (x.number ≡ 0 → ⊥) → loaded (width_of u) (a + offset) store.blocks ≡ Some m → (m == 0) ≡ false
          → AreBounded s store (widening s.frame n.behind (n.target 0 here.at.facts) here.at).widened here.seen

      pub element_claims : is_integer u ≡ true → (n : NodeView) → n.null ≡ false → n.is_zero ≡ false → ((b : Bool) → n.side b here.at ≡ widening_side s.frame n.behind (n.target 0) b here.at) → Widens n
          → IsNotStuck (NodeClaims s store entry here h u n) (evaluated store (Load (width_of u) access v w))
      unfolding IsRanged
      element_claims integer n known some same wide =
          both_go_on (ExprClaims s store entry here e) R (NodeClaims s store entry here h u n) (evaluated store v) (evaluated store w)
          (λ x k. given (element access x k.number) (λ a. loads store (width_of u) (place_in a offset))) left right
          (λ x k is there c d. reads x k is there c d (ranged x c))
        where
          tested : IsTested access.through (pointee_of s.text.layout e.note.ctype)
          tested = tested_pointer s.text.layout e.note.ctype counted

          ends_of : (x : Value) → (x.number ≡ 0) ⊎ ((v : Valuation) × (low : Form) × (high : Form) × HasEnds s store v e.note.ctype low high x) → (x.number ≡ 0) ⊎ ((low : ℕ) × (high : ℕ) × (x.range ≡ Within low high))
          ends_of x (inl z) = inl z
          ends_of x (inr (v, low, high, g)) = inr (g.from, g.to, g.range (counted_checked (kind_of e.note.ctype) counted))

          reads : (x k : Value) → evaluated store v ≡ Ok x → evaluated store w ≡ Ok k → ExprClaims s store entry here e x → R k
              → (x.number ≡ 0) ⊎ ((v : Valuation) × (low : Form) × (high : Form) × HasEnds s store v e.note.ctype low high x)
              → IsNotStuck (NodeClaims s store entry here h u n) (given (element access x k.number) (λ a. loads store (width_of u) (place_in a offset)))
          reads x k is there c d r =
              element_goes access x k.number (NodeClaims s store entry here h u n) (λ a. loads store (width_of u) (place_in a offset)) (pointee_of s.text.layout e.note.ctype) tested (ends_of x r)
              (λ a not_null at. at_element a not_null at r)
            where
              at_element : (a : ℕ) → (x.number ≡ 0 → ⊥) → element access x k.number ≡ Ok a → (x.number ≡ 0) ⊎ ((v : Valuation) × (low : Form) × (high : Form) × HasEnds s store v e.note.ctype low high x)
                  → IsNotStuck (NodeClaims s store entry here h u n) (loads store (width_of u) (place_in a offset))
              at_element a not_null at (inl z) = absurd (not_null z)
              at_element a not_null at (inr (q, low, high, g)) =
                  part_loads s store next ready.sound ready.names ready.shapes (NodeClaims s store entry here h u n) e.note.ctype x.number g.from g.to a offset u part g.true_there
                  (reached_by access x k.number (pointee_of s.text.layout e.note.ctype) g.from g.to a tested refl (g.range (counted_checked (kind_of e.note.ctype) counted)) at)
                  (λ m there_m word. integer_read u n integer known some same m word (λ z. wide x k is there c d a m at not_null there_m z))

      -- what reads through no pointer that is null-terminated widens nothing
      pub narrow_there : (n : NodeView) → widening s.frame n.behind (n.target 0 here.at.facts) here.at ≡ here.at → Widens n
      narrow_there n is = λ x k is' there c d a m at not_null got z.
          subst (λ (at : State). AreBounded s store at.widened here.seen) (sym is) h.widened

    module _ (place : Pos) (index : Integer) (v w : Expr) (R : Value → Type 0) (left : IsNotStuck (ExprClaims s store entry here e) (evaluated store v)) (right : IsNotStuck R (evaluated store w))
        (counted : is_counted_kind (kind_of e.note.ctype) ≡ true) (integer : is_integer (element_of e.note.ctype) ≡ true) (ranged : (x : Value) → ExprClaims s store entry here e x → IsRanged x) where
      abbrev access_there : Access
      access_there = record { through = through_kind (kind_of e.note.ctype); at = place; size = size_behind s.text.layout e.note.ctype; index = index; offset = 0 }

      abbrev pub WidensThere : NodeView → Type 0
      WidensThere = Widens place index v w R left right counted ranged 0 (element_of e.note.ctype) (integer_part s.text.layout (element_of e.note.ctype) integer)

      -- the place that is judged to be read is where the element lies
      abbrev pub Aims : NodeView → Type 0
      Aims n = (x k : Value) (c : ExprClaims s store entry here e x) → R k → evaluated store w ≡ Ok k → (a : ℕ) → pos a ≡ elements_behind x.number (size_behind s.text.layout e.note.ctype) (exact index k.number)
          → (f : Form) → n.target 0 here.at.facts ≡ Some f
          → (pos a ≡ address_by s store.locals (at_pointer x c).after (size_behind s.text.layout e.note.ctype) f) × IsOfLocal s e.note.ctype f.base

      -- through an `_Nt_array_ptr` a local may be widened
      pub wide_terminated : (globals : Globals) → Agrees globals s → DeclareLocals s → (n : NodeView) → n.behind ≡ Some kind.Nt → Aims n → WidensThere n
      wide_terminated globals agrees declares n is aims = λ x k is' there c d a m at not_null got z.
          let exactly = element_is access_there x k.number a (pointee_of s.text.layout e.note.ctype) (tested_pointer s.text.layout e.note.ctype counted) at in
          subst (λ q. AreBounded s store (widening s.frame q (n.target 0 here.at.facts) here.at).widened here.seen) (sym is)
          (by x c a m (n.target 0 here.at.facts) (λ f there'. aims x k c d there a exactly f there') (subst (λ b. loaded (width_of (element_of e.note.ctype)) b store.blocks ≡ Some m) (none_more a) got) z)
        where
          none_more : (a : ℕ) → a + 0 ≡ a
          none_more a = omega arith

          by : (x : Value) (c : ExprClaims s store entry here e x) (a m : ℕ) (o : Option Form)
              → ((f : Form) → o ≡ Some f → (pos a ≡ address_by s store.locals (at_pointer x c).after (size_behind s.text.layout e.note.ctype) f) × IsOfLocal s e.note.ctype f.base)
              → loaded (width_of (element_of e.note.ctype)) a store.blocks ≡ Some m → (m == 0) ≡ false → AreBounded s store (wider (widened_by s.frame o) here.at).widened here.seen
          by x c a m None aims got z = h.widened
          by x c a m (Some f) aims got z =
              place_widens globals s agrees declares store entry next ready here h (at_pointer x c).after
              (fits_pointer x c) f a m e.note.ctype (aims f refl).0 got z integer
              (λ k l based there. subst (IsOfLocal s e.note.ctype) based (aims f refl).1 l there)
