-- The claims of `+` and `-`: they move a pointer, or are of integers.
use Rattle.std.proofs.Common.{◌≡◌, inl, refl, sym, ap, subst, ◌∙◌, ℕ, Bool, true, false, List, [], ◌∷◌, ◌++◌, arith}
use Rattle.std.specs.Prelude.{◌+◌, ◌==◌, ◌<◌, ◌≤◌, ◌^◌, ◌&&◌, length, if◌then◌else◌, ℤ, pos, ◌+ℤ◌, ◌-ℤ◌, ◌*ℤ◌, neg_ℤ, Option, None, Some, Ok}
use Rattle.std.specs.Option.{option_or}
use Rattle.std.proofs.lemmas.Bool.{eqb-true, and_parts}
use Rattle.std.proofs.lemmas.Int.{ints}
use Rattle.ckc_base.specs.declared.arithmetic.BinOp.TheVariants as binary
use Rattle.ckc_base.specs.declared.places.Pos.{Pos}
use Rattle.ckc_base.specs.Words.{applied}
use Rattle.ckc_types.specs.declared.types.Kind.{Kind}
use Rattle.ckc_types.specs.declared.types.Kind.TheVariants as kind
use Rattle.ckc_types.specs.declared.types.CType.{CType, CType-F, out-CType}
use Rattle.ckc_linear.specs.declared.forms.Base.TheVariants as base
use Rattle.ckc_linear.specs.declared.forms.Form.{Form}
use Rattle.ckc_syntax.specs.declared.tree.Node.{Node-F}
use Rattle.ckc_syntax.specs.declared.tree.TreeOp.{TreeOp}
use Rattle.ckc_syntax.specs.declared.tree.TreeOp.TheVariants as op
use Rattle.ckc_typed.specs.declared.typed.Range.TheVariants as range
use Rattle.ckc_typed.specs.Declarations.{is_checked_kind}
use Rattle.ckc_typed.specs.Operands.{is_raw_kind, sum_type, difference_type, is_moved, is_moved_kind}
use Rattle.ckc_typed.specs.Trees.{NotedExpr}
use Rattle.ckc_typed.specs.Types.{is_pointer, is_pointer_form, kind_of, kind_in}
use Rattle.ckc_blame_sound.specs.ckc_bounds_points.specs.Shown.{Known}
use Rattle.ckc_blame_sound.specs.ckc_bounds_points.specs.Flow.{State}
use Rattle.ckc_blame_sound.specs.ckc_bounds_points.specs.Forms.{is_small, constant_form, base_form, sum_of_forms, negative_of}
use Rattle.ckc_blame_sound.specs.ckc_bounds_views.specs.Conditions.{right_point}
use Rattle.ckc_blame_sound.specs.ckc_bounds_views.specs.Parts.{NodeView, capped, next_behind, fresh_behind}
use Rattle.ckc_blame_sound.specs.ckc_bounds_views.specs.Fresh.{right_fresh}
use Rattle.ckc_blame_sound.specs.ckc_bounds_views.specs.Places.{with_own, binary_place, pointer_place}
use Rattle.ckc_blame_sound.specs.ckc_bounds_views.specs.Ranges.{range_of_operand, pointer_range}
use Rattle.ckc_blame_sound.specs.ckc_bounds_views.specs.Views.{node_view, view}
use Rattle.ckc_blame_sound.specs.ckc_bounds_statements.specs.Paths.{Here}
use Rattle.ckc_source.specs.declared.expr.Operation.TheVariants as operation
use Rattle.ckc_source.specs.declared.expr.Shift.{Shift}
use Rattle.ckc_source.specs.declared.outcome.Range.TheVariants.{Without}
use Rattle.ckc_source.specs.declared.outcome.Value.{Value}
use Rattle.ckc_source.specs.Code.{Expr, Number, Binary, Moved, Added}
use Rattle.ckc_source.specs.Eval.{Store, plain, moves_checked, moves, evaluated}
use Rattle.ckc_source.specs.Words.{exact, elements_behind}
use Rattle.ckc_build_values.specs.Kinds.{integer_of, size_behind}
use Rattle.ckc_build_values.specs.Operators.{is_signed_at, shift, distance, of_operands}
use Rattle.ckc_blame_sound.specs.Settings.{Setting}
use Rattle.ckc_blame_sound.specs.Values.{number_of}
use Rattle.ckc_blame_sound.specs.Points.{HoldsAt}
use Rattle.ckc_blame_sound.proofs.Types.{no_pointer}
use Rattle.ckc_blame_sound.specs.Bodies.{AreFresh}
use Rattle.ckc_blame_pointers.specs.Valuations.{Valuation, Fits, Extends, AreNumbers}
use Rattle.ckc_blame_pointers.specs.Meant.{IsNotStuck}
use Rattle.ckc_blame_pointers.proofs.Claims.{AreTold, Placed, SideGoes, weaker, both_go_on, stays, placed_as}
use Rattle.ckc_blame_pointers.proofs.Moving.{moved_placed}
use Rattle.ckc_blame_pointers.proofs.Later.{extends_less, extends_on, still_fits, next_more, next_both, left_room, right_room, with_zeros, zeros_extend, zeros_numbers, numbers_kept, numbers_both}
use Rattle.ckc_blame_pointers.proofs.Unwidened.{fresh_same, right_fresh_is}
use Rattle.ckc_blame_pointers.proofs.Numbers.{times_negative}
use Rattle.ckc_blame_pointers.proofs.Own.{missing_claims}
use Rattle.ckc_blame_pointers.proofs.Nodes.{moved_goes, node_fresh, NodeClaims, narrow, integer_claims}
use Rattle.ckc_blame_pointers.proofs.Rows.{IsSmall, operation_word, Wide, wide_small, pointer_word, left_row, right_row, plain_row, less_row, distance_row, plain_less_row}
use Rattle.ckc_blame_pointers.proofs.Binary.{ExprClaims, small_value}

checked_in : (f : CType-F CType) → is_pointer_form f ≡ true → is_raw_kind (kind_in f) ≡ false → is_checked_kind (kind_in f) ≡ true
checked_in (CType-F.Pointer k t) p e = by k e
  where
    by : (k : Kind) → is_raw_kind (Some k) ≡ false → is_checked_kind (Some k) ≡ true
    by kind.Raw e = sym e
    by kind.One e = refl
    by kind.Arr e = refl
    by kind.Nt e = refl
checked_in CType-F.Int p e = absurd (cc)
checked_in CType-F.Unsigned p e = absurd (cc)
checked_in CType-F.Char p e = absurd (cc)
checked_in CType-F.Void p e = absurd (cc)
checked_in (CType-F.Struct tag) p e = absurd (cc)

-- a pointer that is not unchecked is a checked one
pub checked_pointer : (t : CType) → is_pointer t ≡ true → is_raw_kind (kind_of t) ≡ false → is_checked_kind (kind_of t) ≡ true
checked_pointer t p e = checked_in (out-CType t) p e

-- and an unchecked one is none
raw_unchecked : (k : Option Kind) → is_raw_kind k ≡ true → is_checked_kind k ≡ false
raw_unchecked (Some kind.Raw) e = refl
raw_unchecked (Some kind.One) e = absurd (cc)
raw_unchecked (Some kind.Arr) e = absurd (cc)
raw_unchecked (Some kind.Nt) e = absurd (cc)
raw_unchecked None e = absurd (cc)

-- An unchecked pointer that is moved is a word without a range.
raw_moves : (Q : Value → Type 0) (shift : Shift) (v : Value) (k : ℕ) → shift.checked ≡ false → ((a : ℕ) → a < 2 ^ 32 → Q (record { number = a; range = Without })) → IsNotStuck Q (moves shift v k)
raw_moves Q shift v k unchecked next =
    subst (λ (b : Bool). IsNotStuck Q (if b then moves_checked shift v k else plain (applied (if shift.back then binary.Sub else binary.Add) v.number (applied binary.Mul shift.size k)))) (sym unchecked)
    (next (applied (if shift.back then binary.Sub else binary.Add) v.number (applied binary.Mul shift.size k)) (small shift.back v.number (applied binary.Mul shift.size k)))
  where
    small : (back : Bool) (m n : ℕ) → applied (if back then binary.Sub else binary.Add) m n < 2 ^ 32
    small true m n = omega arith
    small false m n = omega arith

-- ---- how values are numbered

-- where there is room for the values of two operands, and one more
pub record HasRoom (first a b : ℕ) : Type 0 where
  pub left : first + a + 1 < 2 ^ 32
  pub right : capped first a + b + 1 < 2 ^ 32
  pub more : first ≤ capped first a
  pub over : first + a ≤ capped first (capped a b)
  pub next : capped first a + b ≤ capped first (capped a b)
  pub own : capped first (capped a b) < first + capped (capped a b) 1

pub has_room : (first a b : ℕ) → first + capped (capped a b) 1 + 1 < 2 ^ 32 → HasRoom first a b
has_room first a b h = record { left = omega arith; right = omega arith; more = omega arith; over = omega arith; next = omega arith; own = omega arith }

-- ---- an index as a form

module _ (s : Setting) (store : Store) (entry : List ℕ) (here : Here) where
  -- An index is what its form says, by the facts of a point and by any that are true.
  abbrev pub IsIndex : ℤ → (Known → Option Form) → Type 0
  IsIndex z form = (v : Valuation) → Fits s.frame store.locals v → (facts : Known) → AreTold s store entry here v facts → (g : Form) → form facts ≡ Some g → z ≡ number_of v.numbers g

  negative_index : (z : ℤ) (form : Known → Option Form) → IsIndex z form → IsIndex (neg_ℤ z) (λ facts. negative_of (form facts))
  negative_index z form is v fits facts told g e = by_form (form facts) (λ f there. is v fits facts told f there) e
    where
      by_form : (o : Option Form) → ((f : Form) → o ≡ Some f → z ≡ number_of v.numbers f) → negative_of o ≡ Some g → neg_ℤ z ≡ number_of v.numbers g
      by_form None is e = absurd (cc)
      by_form (Some f) is e = by ((f.var == 0) && is_small f.add) refl e
        where
          turned : f.var ≡ 0 → z ≡ v.numbers f.var +ℤ f.add → neg_ℤ z ≡ v.numbers 0 +ℤ neg_ℤ f.add
          turned zero e =
              let first : v.numbers f.var ≡ v.numbers 0 = ap v.numbers zero in
              let none : v.numbers 0 ≡ pos 0 = fits 0 (inl refl) in
              omega (arith, ints)

          by : (b : Bool) → ((f.var == 0) && is_small f.add) ≡ b → ◌≡◌ {A = Option Form} (if b then Some (constant_form (neg_ℤ f.add)) else None) (Some g) → neg_ℤ z ≡ number_of v.numbers g
          by true h e =
              let same : constant_form (neg_ℤ f.add) ≡ g = cc in
              let parts = and_parts (f.var == 0) (is_small f.add) h in
              subst (λ g. neg_ℤ z ≡ number_of v.numbers g) same (turned (eqb-true f.var 0 parts.0) (is f refl))
          by false h e = absurd (cc)

module _ (s : Setting) (store : Store) (entry : List ℕ) (here : Here) (h : HoldsAt s store entry here) where
  pub fresh_on : (fresh more : ℕ) → fresh ≤ more → AreFresh s.frame fresh → AreFresh s.frame more
  fresh_on fresh more less are k l above there = are k l (omega arith) there

  -- ---- a pointer that is moved

  -- how the numbers of the pointer begin, what is said of the sum, and what fresh variables there are before those of
  -- the pointer and after them
  record IsMoved (k : NotedExpr) (n : NodeView) (form : Known → Option Form) (next : ℕ → ℕ) (front back : List CType) : Type 0 where
    pub pointer : is_pointer k.note.ctype ≡ true
    pub moved : is_moved k.note.ctype ≡ true
    pub quiet : n.behind ≡ None
    pub some : n.is_zero ≡ false
    pub stays_there : (b : Bool) → n.side b here.at ≡ here.at
    pub place : (first : ℕ) (facts : Known) → pointer_place k.note.ctype n first facts
        ≡ option_or (sum_of_forms ((view s.frame k).place (next first) facts) (form facts)) (Some (base_form (base.Value (capped first n.values))))
    pub range : (first fresh : ℕ) → fresh < 2 ^ 32 → (widened : List ℕ)
        → pointer_range k.note.ctype n first fresh (record here.at { widened = widened }) ≡ (view s.frame k).range (next first) (next_behind fresh front) (record here.at { widened = widened })
    pub types : node_fresh k.note.ctype n here.at ≡ front ++ ((view s.frame k).fresh here.at ++ back)
    pub room : (first : ℕ) → first + with_own k.note.ctype n + 1 < 2 ^ 32 → (next first + (view s.frame k).values + 1 < 2 ^ 32) × (first ≤ next first)
        × (next first + (view s.frame k).values ≤ capped first n.values) × (capped first n.values < first + with_own k.note.ctype n)

  moved_claims : (k : NotedExpr) (n : NodeView) (form : Known → Option Form) (next : ℕ → ℕ) (front back : List CType) → IsMoved k n form next front back → (x : Value) → ExprClaims s store entry here k x
      → (z : ℤ) → IsIndex s store entry here z form → (a : ℕ) → (x.number ≡ 0 → ⊥) → pos a ≡ elements_behind x.number (size_behind s.text.layout k.note.ctype) z → a < 2 ^ 32
      → NodeClaims s store entry here h k.note.ctype n (record { number = a; range = x.range })
  moved_claims k n form next front back m x c z index a some is small = record {
    word = pointer_word k.note.ctype m.pointer a small;
    placed = λ first fresh before low little are fits.
        placed_as s store entry here k.note.ctype (first + with_own k.note.ctype n) (first + with_own k.note.ctype n) _ (pointer_place k.note.ctype n first) ((view s.frame k).range (next first) (next_behind fresh front)) (pointer_range k.note.ctype n first fresh)
        (front ++ (ts ++ back)) (node_fresh k.note.ctype n here.at) first fresh before (record { number = a; range = x.range }) refl (m.place first) (m.range first fresh (under fresh (node_fresh k.note.ctype n here.at) little)) m.types
        (placed_so first fresh before (m.room first low) (subst (λ us. fresh + length us < 2 ^ 32) m.types little) are fits);
    one = λ ones e. let single : is_moved k.note.ctype ≡ false = ap is_moved_kind e in let other = m.moved in absurd (cc);
    zero = λ e. let other = m.some in absurd (cc);
    wide = λ e. narrow s store entry here h n m.quiet;
    sides = λ b e. subst (SideGoes s store entry here) (sym (m.stays_there b)) (stays s store entry here h);
  }
    where
      ts : List CType
      ts = (view s.frame k).fresh here.at

      under : (fresh : ℕ) (us : List CType) → fresh + length us < 2 ^ 32 → fresh < 2 ^ 32
      under fresh us h = omega arith

      placed_so : (first fresh : ℕ) (before : Valuation)
          → (next first + (view s.frame k).values + 1 < 2 ^ 32) × (first ≤ next first) × (next first + (view s.frame k).values ≤ capped first n.values) × (capped first n.values < first + with_own k.note.ctype n)
          → fresh + length (front ++ (ts ++ back)) < 2 ^ 32 → AreFresh s.frame fresh → Fits s.frame store.locals before
          → Placed s store entry here k.note.ctype (first + with_own k.note.ctype n)
          (λ facts. option_or (sum_of_forms ((view s.frame k).place (next first) facts) (form facts)) (Some (base_form (base.Value (capped first n.values))))) ((view s.frame k).range (next first) (next_behind fresh front))
          (front ++ (ts ++ back)) first fresh before (record { number = a; range = x.range })
      placed_so first fresh before room little are fits =
          moved_placed s store entry here k.note.ctype limit (first + with_own k.note.ctype n) (next first) more ((view s.frame k).place (next first)) ((view s.frame k).range (next first) more) ts (front ++ (ts ++ back)) before middle x p z form index a is some
          first fresh (capped first n.values) w room.1 (omega (arith, room)) room.2 room.3 ends_under (next_more fresh (front ++ (ts ++ back)) little) little are fits begins goes all
        where
          more : ℕ
          more = next_behind fresh front

          limit : ℕ
          limit = next first + (view s.frame k).values

          middle : Valuation
          middle = with_zeros fresh before

          front_room : fresh + length front < 2 ^ 32
          front_room = left_room fresh front (ts ++ back) little

          rest_room : more + length (ts ++ back) < 2 ^ 32
          rest_room = right_room fresh front (ts ++ back) little

          ts_room : more + length ts < 2 ^ 32
          ts_room = left_room more ts back rest_room

          back_room : next_behind more ts + length back < 2 ^ 32
          back_room = right_room more ts back rest_room

          up : fresh ≤ more
          up = next_more fresh front front_room

          p : Placed s store entry here k.note.ctype limit ((view s.frame k).place (next first)) ((view s.frame k).range (next first) more) ts (next first) more middle x
          p = c.placed (next first) more middle room.0 ts_room (fresh_on fresh more up are) (still_fits s store.locals first fresh before middle are fits (zeros_extend first fresh before))

          w : Valuation
          w = with_zeros (next_behind more ts) p.after

          goes : Extends limit (next_behind more ts) p.after w
          goes = zeros_extend limit (next_behind more ts) p.after

          part_goes : Extends (next first) more middle w
          part_goes = extends_on (next first) more middle p.after w p.extends (extends_less (next first) more limit (next_behind more ts) p.after w (omega arith) (next_more more ts ts_room) goes)

          begins : Extends first fresh before w
          begins = extends_on first fresh before middle w (zeros_extend first fresh before) (extends_less first fresh (next first) more middle w room.1 up part_goes)

          ends_under : next_behind more ts ≤ next_behind fresh (front ++ (ts ++ back))
          ends_under = subst (λ n. next_behind more ts ≤ n) (next_both more ts back rest_room ∙ next_both fresh front (ts ++ back) little) (next_more (next_behind more ts) back back_room)

          all : AreNumbers w.numbers (capped fresh 1) (front ++ (ts ++ back))
          all =
              numbers_both w fresh front (ts ++ back) (numbers_kept middle w (next first) fresh front front_room part_goes (zeros_numbers fresh before front front_room))
              (numbers_both w more ts back (p.numbers w goes) (zeros_numbers (next_behind more ts) p.after back back_room))

  -- ---- `+` and `-`

  module _ (e f : NotedExpr) (r : CType) (place : Pos) (v w : Expr) (left : IsNotStuck (ExprClaims s store entry here e) (evaluated store v)) (right : IsNotStuck (ExprClaims s store entry here f) (evaluated store w))
      (viewed : (view s.frame e).ctype ≡ e.note.ctype)
      (left_form : (x : Value) → evaluated store v ≡ Ok x → IsIndex s store entry here (exact (integer_of e.note.ctype) x.number) (view s.frame e).form)
      (right_form : (x : Value) → evaluated store w ≡ Ok x → IsIndex s store entry here (exact (integer_of f.note.ctype) x.number) (view s.frame f).form) where
    abbrev node : TreeOp → NodeView
    node o = node_view s.frame (Node-F.Bin o (view s.frame e) (view s.frame f))

    module _ (pointer : is_pointer e.note.ctype ≡ true) (moved : is_moved e.note.ctype ≡ true) (checked : is_raw_kind (kind_of e.note.ctype) ≡ false) where
      view_pointer : is_pointer (view s.frame e).ctype ≡ true
      view_pointer = ap is_pointer viewed ∙ pointer

      own_room : (o : TreeOp) (first : ℕ) → first + with_own e.note.ctype (node o) + 1 < 2 ^ 32
          → (first + (view s.frame e).values + 1 < 2 ^ 32) × (first ≤ first) × (first + (view s.frame e).values ≤ capped first (node o).values) × (capped first (node o).values < first + with_own e.note.ctype (node o))
      own_room o first low =
          let own : with_own e.note.ctype (node o) ≡ capped (capped (view s.frame e).values (view s.frame f).values) 1 =
          ap (λ b. if b && true then capped (capped (view s.frame e).values (view s.frame f).values) 1 else capped (view s.frame e).values (view s.frame f).values) pointer in
          let room = has_room first (view s.frame e).values (view s.frame f).values (subst (λ n. first + n + 1 < 2 ^ 32) own low) in
          (room.left, omega arith, room.over, subst (λ n. capped first (node o).values < first + n) (sym own) room.own)

      range_there : (o : TreeOp) (first fresh : ℕ) → fresh < 2 ^ 32 → (widened : List ℕ)
          → pointer_range e.note.ctype (node o) first fresh (record here.at { widened = widened }) ≡ (view s.frame e).range first (next_behind fresh []) (record here.at { widened = widened })
      range_there o first fresh little widened =
          ap (λ b. if b then (if is_raw_kind (kind_of e.note.ctype) then range.Missing else range_of_operand (view s.frame e) (view s.frame f) first fresh at) else range.Missing) pointer
          ∙ ap (λ b. if b then range.Missing else range_of_operand (view s.frame e) (view s.frame f) first fresh at) checked
          ∙ ap (λ b. if b then (view s.frame e).range first fresh at else (view s.frame f).range (capped first (view s.frame e).values) (fresh_behind (view s.frame e) fresh at) at) view_pointer
          ∙ ap (λ n. (view s.frame e).range first n at) none
        where
          at : State
          at = record here.at { widened = widened }

          none : fresh ≡ capped fresh 0
          none = omega arith

      place_there : (o : TreeOp) (form : Known → Option Form) (first : ℕ) (facts : Known) → binary_place first facts o (view s.frame e) (view s.frame f) ≡ sum_of_forms ((view s.frame e).place first facts) (form facts)
          → pointer_place e.note.ctype (node o) first facts
          ≡ option_or (sum_of_forms ((view s.frame e).place first facts) (form facts)) (Some (base_form (base.Value (capped first (node o).values))))
      place_there o form first facts is =
          ap (λ b. if b then option_or (if is_raw_kind (kind_of e.note.ctype) then None else binary_place first facts o (view s.frame e) (view s.frame f))
          (Some (base_form (base.Value (capped first (node o).values)))) else None) pointer
          ∙ ap (λ b. option_or (if b then None else binary_place first facts o (view s.frame e) (view s.frame f)) (Some (base_form (base.Value (capped first (node o).values))))) checked
          ∙ ap (λ q. option_or q (Some (base_form (base.Value (capped first (node o).values))))) is

      left_moved : IsMoved e (node op.Add) (view s.frame f).form (λ n. n) [] (right_fresh op.Add (view s.frame e) (view s.frame f) here.at)
      left_moved = record {
        pointer = pointer;
        moved = moved;
        quiet = refl;
        some = refl;
        stays_there = λ b. refl;
        place = λ first facts. place_there op.Add (view s.frame f).form first facts
            (ap (λ b. if b then sum_of_forms ((view s.frame e).place first facts) ((view s.frame f).form facts)
            else sum_of_forms ((view s.frame f).place (capped first (view s.frame e).values) facts) ((view s.frame e).form facts)) view_pointer);
        range = range_there op.Add;
        types = refl;
        room = own_room op.Add;
      }

      less_moved : IsMoved e (node op.Sub) (λ facts. negative_of ((view s.frame f).form facts)) (λ n. n) [] (right_fresh op.Sub (view s.frame e) (view s.frame f) here.at)
      less_moved = record {
        pointer = pointer;
        moved = moved;
        quiet = refl;
        some = refl;
        stays_there = λ b. refl;
        place = λ first facts. place_there op.Sub (λ facts. negative_of ((view s.frame f).form facts)) first facts refl;
        range = range_there op.Sub;
        types = refl;
        room = own_room op.Sub;
      }

      more_claims : IsNotStuck (NodeClaims s store entry here h e.note.ctype (node op.Add)) (evaluated store (Moved (shift s.text.layout e.note.ctype f.note.ctype place false) v w))
      more_claims =
          both_go_on (ExprClaims s store entry here e) (ExprClaims s store entry here f) (NodeClaims s store entry here h e.note.ctype (node op.Add)) (evaluated store v) (evaluated store w)
          (λ x y. moves (shift s.text.layout e.note.ctype f.note.ctype place false) x y.number) left right
          (λ x y is there c d. moved_goes (NodeClaims s store entry here h e.note.ctype (node op.Add)) (shift s.text.layout e.note.ctype f.note.ctype place false) x y.number (checked_pointer e.note.ctype pointer checked)
          (λ a some at small. moved_claims e (node op.Add) _ _ _ _ left_moved x c (exact (integer_of f.note.ctype) y.number) (right_form y there) a some (sym at) small))

      less_claims : IsNotStuck (NodeClaims s store entry here h e.note.ctype (node op.Sub)) (evaluated store (Moved (shift s.text.layout e.note.ctype f.note.ctype place true) v w))
      less_claims =
          both_go_on (ExprClaims s store entry here e) (ExprClaims s store entry here f) (NodeClaims s store entry here h e.note.ctype (node op.Sub)) (evaluated store v) (evaluated store w)
          (λ x y. moves (shift s.text.layout e.note.ctype f.note.ctype place true) x y.number) left right
          (λ x y is there c d. moved_goes (NodeClaims s store entry here h e.note.ctype (node op.Sub)) (shift s.text.layout e.note.ctype f.note.ctype place true) x y.number (checked_pointer e.note.ctype pointer checked)
          (λ a some at small. moved_claims e (node op.Sub) _ _ _ _ less_moved x c (neg_ℤ (exact (integer_of f.note.ctype) y.number))
          (negative_index s store entry here (exact (integer_of f.note.ctype) y.number) (view s.frame f).form (right_form y there)) a some
          (sym at ∙ back x.number (size_behind s.text.layout e.note.ctype) (exact (integer_of f.note.ctype) y.number)) small))
        where
          back : (n size : ℕ) (i : ℤ) → pos n -ℤ (pos size *ℤ i) ≡ elements_behind n size (neg_ℤ i)
          back n size i =
              let turned : pos size *ℤ neg_ℤ i ≡ neg_ℤ (pos size *ℤ i) = times_negative size i in
              omega (arith, ints)

    -- the pointer is the right operand
    module _ (bare : is_pointer e.note.ctype ≡ false) (pointer : is_pointer f.note.ctype ≡ true) (moved : is_moved f.note.ctype ≡ true) (checked : is_raw_kind (kind_of f.note.ctype) ≡ false) where
      view_bare : is_pointer (view s.frame e).ctype ≡ false
      view_bare = ap is_pointer viewed ∙ bare

      right_moved : IsMoved f (node op.Add) (view s.frame e).form (λ n. capped n (view s.frame e).values) ((view s.frame e).fresh here.at) []
      right_moved = record {
        pointer = pointer;
        moved = moved;
        quiet = refl;
        some = refl;
        stays_there = λ b. refl;
        place = λ first facts.
            ap (λ b. if b then option_or (if is_raw_kind (kind_of f.note.ctype) then None else binary_place first facts op.Add (view s.frame e) (view s.frame f))
            (Some (base_form (base.Value (capped first (node op.Add).values)))) else None) pointer
            ∙ ap (λ b. option_or (if b then None else binary_place first facts op.Add (view s.frame e) (view s.frame f)) (Some (base_form (base.Value (capped first (node op.Add).values))))) checked
            ∙ ap (λ b. option_or (if b then sum_of_forms ((view s.frame e).place first facts) ((view s.frame f).form facts)
            else sum_of_forms ((view s.frame f).place (capped first (view s.frame e).values) facts) ((view s.frame e).form facts))
            (Some (base_form (base.Value (capped first (node op.Add).values))))) view_bare;
        range = λ first fresh little widened.
            let at : State = record here.at { widened = widened } in
            ap (λ b. if b then (if is_raw_kind (kind_of f.note.ctype) then range.Missing else range_of_operand (view s.frame e) (view s.frame f) first fresh at) else range.Missing) pointer
            ∙ ap (λ b. if b then range.Missing else range_of_operand (view s.frame e) (view s.frame f) first fresh at) checked
            ∙ ap (λ b. if b then (view s.frame e).range first fresh at else (view s.frame f).range (capped first (view s.frame e).values) (fresh_behind (view s.frame e) fresh at) at) view_bare
            ∙ ap (λ us. (view s.frame f).range (capped first (view s.frame e).values) (next_behind fresh us) at) (fresh_same s.frame e here.at widened);
        types = ap (λ us. (view s.frame e).fresh here.at ++ us) (right_fresh_is s.frame op.Add (view s.frame e) f here.at ∙ sym (append_none ((view s.frame f).fresh here.at)));
        room = λ first low.
            let own : with_own f.note.ctype (node op.Add) ≡ capped (capped (view s.frame e).values (view s.frame f).values) 1 =
            ap (λ b. if b && true then capped (capped (view s.frame e).values (view s.frame f).values) 1 else capped (view s.frame e).values (view s.frame f).values) pointer in
            let room = has_room first (view s.frame e).values (view s.frame f).values (subst (λ n. first + n + 1 < 2 ^ 32) own low) in
            (room.right, room.more, room.next, subst (λ n. capped first (node op.Add).values < first + n) (sym own) room.own);
      }
        where
          append_none : (ts : List CType) → ts ++ [] ≡ ts
          append_none [] = refl
          append_none (t ∷ ts) = ap (λ us. t ∷ us) (append_none ts)

      added_claims : IsNotStuck (NodeClaims s store entry here h f.note.ctype (node op.Add)) (evaluated store (Added (shift s.text.layout f.note.ctype e.note.ctype place false) v w))
      added_claims =
          both_go_on (ExprClaims s store entry here e) (ExprClaims s store entry here f) (NodeClaims s store entry here h f.note.ctype (node op.Add)) (evaluated store v) (evaluated store w)
          (λ y x. moves (shift s.text.layout f.note.ctype e.note.ctype place false) x y.number) left right
          (λ y x there is d c. moved_goes (NodeClaims s store entry here h f.note.ctype (node op.Add)) (shift s.text.layout f.note.ctype e.note.ctype place false) x y.number (checked_pointer f.note.ctype pointer checked)
          (λ a some at small. moved_claims f (node op.Add) _ _ _ _ right_moved x c (exact (integer_of e.note.ctype) y.number) (left_form y there) a some (sym at) small))

    -- an unchecked pointer that is moved
    module _ (o : TreeOp) (same : (at : State) → right_point o (view s.frame e) at ≡ at) (quiet : (b : Bool) → (node o).side b here.at ≡ here.at) (t : CType) (pointer : is_pointer t ≡ true) (raw : is_raw_kind (kind_of t) ≡ true) where
      raw_moved : (x : Value) → x.number < 2 ^ 32 → NodeClaims s store entry here h t (node o) x
      raw_moved x small =
          missing_claims s store entry here h t pointer (λ one. let other : is_raw_kind (kind_of t) ≡ false = ap is_raw_kind one in absurd (cc)) (node o) refl refl
          (λ first facts. ap (λ b. if b then None else binary_place first facts o (view s.frame e) (view s.frame f)) raw) kept
          (λ own first fresh widened. ap (λ b. if b then range.Missing else range_of_operand (view s.frame e) (view s.frame f) first fresh (record here.at { widened = widened })) raw) refl refl refl quiet x small
        where
          right_is : (at : State) → right_fresh o (view s.frame e) (view s.frame f) at ≡ (view s.frame f).fresh at
          right_is at = right_fresh_is s.frame o (view s.frame e) f at ∙ ap (view s.frame f).fresh (same at)

          kept : (widened : List ℕ) → (view s.frame e).fresh (record here.at { widened = widened }) ++ right_fresh o (view s.frame e) (view s.frame f) (record here.at { widened = widened })
              ≡ (view s.frame e).fresh here.at ++ right_fresh o (view s.frame e) (view s.frame f) here.at
          kept widened =
              ap (λ us. us ++ right_fresh o (view s.frame e) (view s.frame f) (record here.at { widened = widened })) (fresh_same s.frame e here.at widened)
              ∙ ap (λ us. (view s.frame e).fresh here.at ++ us) (right_is (record here.at { widened = widened }) ∙ fresh_same s.frame f here.at widened ∙ sym (right_is here.at))

      raw_left_claims : (step : Shift) → step.checked ≡ is_checked_kind (kind_of t) → IsNotStuck (NodeClaims s store entry here h t (node o)) (evaluated store (Moved step v w))
      raw_left_claims step checked =
          both_go_on (ExprClaims s store entry here e) (ExprClaims s store entry here f) (NodeClaims s store entry here h t (node o)) (evaluated store v) (evaluated store w) (λ x y. moves step x y.number) left right
          (λ x y is there c d. raw_moves (NodeClaims s store entry here h t (node o)) step x y.number (checked ∙ raw_unchecked (kind_of t) raw) (λ a small. raw_moved (record { number = a; range = Without }) small))

      raw_right_claims : (step : Shift) → step.checked ≡ is_checked_kind (kind_of t) → IsNotStuck (NodeClaims s store entry here h t (node o)) (evaluated store (Added step v w))
      raw_right_claims step checked =
          both_go_on (ExprClaims s store entry here e) (ExprClaims s store entry here f) (NodeClaims s store entry here h t (node o)) (evaluated store v) (evaluated store w) (λ y x. moves step x y.number) left right
          (λ y x there is d c. raw_moves (NodeClaims s store entry here h t (node o)) step x y.number (checked ∙ raw_unchecked (kind_of t) raw) (λ a small. raw_moved (record { number = a; range = Without }) small))

    number_claims : (o : TreeOp) → ((b : Bool) → (node o).side b here.at ≡ here.at) → Wide r → (x : Expr) → IsNotStuck IsSmall (evaluated store x)
        → IsNotStuck (NodeClaims s store entry here h r (node o)) (evaluated store x)
    number_claims o same wide x small =
        weaker (evaluated store x) small (λ p is k.
        integer_claims s store entry here h r (node o) (no_pointer r wide.wide.integer) refl p (wide_small r wide p.number k) (λ e. absurd (cc)) (λ e. absurd (cc))
        (λ b side. subst (SideGoes s store entry here) (sym (same b)) (stays s store entry here h)))

    small_left : IsNotStuck IsSmall (evaluated store v)
    small_left = small_value s store entry here e (evaluated store v) left

    small_right : IsNotStuck IsSmall (evaluated store w)
    small_right = small_value s store entry here f (evaluated store w) right

    -- The pointer that is moved is a checked one, or an unchecked one.
    pub sum_claims : sum_type e.note.ctype f.note.ctype ≡ Some r → IsNotStuck (NodeClaims s store entry here h r (node op.Add)) (evaluated store (of_operands s.text.layout op.Add e.note.ctype f.note.ctype place v w))
    sum_claims row = by (is_pointer e.note.ctype) (is_pointer f.note.ctype) refl refl
      where
        left_sum : is_pointer e.note.ctype ≡ true → is_moved e.note.ctype ≡ true → (b : Bool) → is_raw_kind (kind_of e.note.ctype) ≡ b
            → IsNotStuck (NodeClaims s store entry here h e.note.ctype (node op.Add)) (evaluated store (Moved (shift s.text.layout e.note.ctype f.note.ctype place false) v w))
        left_sum p moved true raw = raw_left_claims op.Add (λ at. refl) (λ b. refl) e.note.ctype p raw (shift s.text.layout e.note.ctype f.note.ctype place false) refl
        left_sum p moved false checked = more_claims p moved checked

        right_sum : is_pointer e.note.ctype ≡ false → is_pointer f.note.ctype ≡ true → is_moved f.note.ctype ≡ true → (b : Bool) → is_raw_kind (kind_of f.note.ctype) ≡ b
            → IsNotStuck (NodeClaims s store entry here h f.note.ctype (node op.Add)) (evaluated store (Added (shift s.text.layout f.note.ctype e.note.ctype place false) v w))
        right_sum p q moved true raw = raw_right_claims op.Add (λ at. refl) (λ b. refl) f.note.ctype q raw (shift s.text.layout f.note.ctype e.note.ctype place false) refl
        right_sum p q moved false checked = added_claims p q moved checked

        by : (a b : Bool) → is_pointer e.note.ctype ≡ a → is_pointer f.note.ctype ≡ b → IsNotStuck (NodeClaims s store entry here h r (node op.Add))
            (evaluated store (if a then Moved (shift s.text.layout e.note.ctype f.note.ctype place false) v w
            else (if b then Added (shift s.text.layout f.note.ctype e.note.ctype place false) v w else Binary operation.Add (is_signed_at op.Add e.note.ctype f.note.ctype) place v w)))
        by true b p q =
            let row_is = left_row e.note.ctype f.note.ctype r p row in
            subst (λ t. IsNotStuck (NodeClaims s store entry here h t (node op.Add)) (evaluated store (Moved (shift s.text.layout e.note.ctype f.note.ctype place false) v w))) (sym row_is.0)
            (left_sum p row_is.2 (is_raw_kind (kind_of e.note.ctype)) refl)
        by false true p q =
            let row_is = right_row e.note.ctype f.note.ctype r p q row in
            subst (λ t. IsNotStuck (NodeClaims s store entry here h t (node op.Add)) (evaluated store (Added (shift s.text.layout f.note.ctype e.note.ctype place false) v w))) (sym row_is.0)
            (right_sum p q row_is.2 (is_raw_kind (kind_of f.note.ctype)) refl)
        by false false p q =
            number_claims op.Add (λ b. refl) (plain_row e.note.ctype f.note.ctype r p q row) (Binary operation.Add (is_signed_at op.Add e.note.ctype f.note.ctype) place v w)
            (operation_word store operation.Add (is_signed_at op.Add e.note.ctype f.note.ctype) place v w small_left small_right)

    pub difference_claims : size_behind s.text.layout e.note.ctype < 2 ^ 32 → difference_type e.note.ctype f.note.ctype ≡ Some r
        → IsNotStuck (NodeClaims s store entry here h r (node op.Sub)) (evaluated store (of_operands s.text.layout op.Sub e.note.ctype f.note.ctype place v w))
    difference_claims sized row = by (is_pointer e.note.ctype) (is_pointer f.note.ctype) refl refl
      where
        left_less : is_pointer e.note.ctype ≡ true → is_moved e.note.ctype ≡ true → (b : Bool) → is_raw_kind (kind_of e.note.ctype) ≡ b
            → IsNotStuck (NodeClaims s store entry here h e.note.ctype (node op.Sub)) (evaluated store (Moved (shift s.text.layout e.note.ctype f.note.ctype place true) v w))
        left_less p moved true raw = raw_left_claims op.Sub (λ at. refl) (λ b. refl) e.note.ctype p raw (shift s.text.layout e.note.ctype f.note.ctype place true) refl
        left_less p moved false checked = less_claims p moved checked

        by : (a b : Bool) → is_pointer e.note.ctype ≡ a → is_pointer f.note.ctype ≡ b → IsNotStuck (NodeClaims s store entry here h r (node op.Sub))
            (evaluated store (if a then (if b then distance s.text.layout e.note.ctype place v w else Moved (shift s.text.layout e.note.ctype f.note.ctype place true) v w)
            else Binary operation.Sub (is_signed_at op.Sub e.note.ctype f.note.ctype) place v w))
        by true true p q =
            number_claims op.Sub (λ b. refl) (distance_row e.note.ctype f.note.ctype r p q row) (distance s.text.layout e.note.ctype place v w)
            (operation_word store operation.Div true place (Binary operation.Sub true place v w) (Number (size_behind s.text.layout e.note.ctype))
            (operation_word store operation.Sub true place v w small_left small_right) sized)
        by true false p q =
            let row_is = less_row e.note.ctype f.note.ctype r p q row in
            subst (λ t. IsNotStuck (NodeClaims s store entry here h t (node op.Sub)) (evaluated store (Moved (shift s.text.layout e.note.ctype f.note.ctype place true) v w))) (sym row_is.0)
            (left_less p row_is.2 (is_raw_kind (kind_of e.note.ctype)) refl)
        by false b p q =
            number_claims op.Sub (λ b. refl) (plain_less_row e.note.ctype f.note.ctype r p row) (Binary operation.Sub (is_signed_at op.Sub e.note.ctype f.note.ctype) place v w)
            (operation_word store operation.Sub (is_signed_at op.Sub e.note.ctype f.note.ctype) place v w small_left small_right)
