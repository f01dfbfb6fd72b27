-- The claims of nodes without a pointer of their own, and of those that move one.
use Rattle.std.proofs.Common.{◌≡◌, ◌⊎◌, inl, inr, refl, sym, ap, subst, ◌∙◌, ℕ, Bool, true, false, List}
use Rattle.std.specs.Prelude.{◌+◌, ◌==◌, ◌<◌, ◌^◌, not, if◌then◌else◌, nat_lt, slice_index, ℤ, pos, negsuc, Option, None, Some, Ok}
use Rattle.std.specs.List.{list_any}
use Rattle.std.proofs.lemmas.Bool.{ltb-true}
use Rattle.ckc_base.specs.declared.arithmetic.BinOp.TheVariants as binary
use Rattle.ckc_base.specs.Words.{applied}
use Rattle.ckc_base.specs.declared.runtime_checks.Check.TheVariants as check
use Rattle.ckc_types.specs.declared.types.CType.{CType}
use Rattle.ckc_linear.specs.declared.forms.Base.{Base}
use Rattle.ckc_linear.specs.declared.forms.Base.TheVariants as base
use Rattle.ckc_linear.specs.declared.forms.Form.{Form}
use Rattle.ckc_typed.specs.declared.typed.Range.{Range}
use Rattle.ckc_typed.specs.declared.typed.Range.TheVariants as range
use Rattle.ckc_typed.specs.Types.{is_pointer}
use Rattle.ckc_blame_sound.specs.ckc_bounds_points.specs.declared.frame.Bounds.{Bounds}
use Rattle.ckc_blame_sound.specs.ckc_bounds_points.specs.declared.frame.Bounds.TheVariants as bounds
use Rattle.ckc_blame_sound.specs.ckc_bounds_points.specs.declared.frame.Local.{Local}
use Rattle.ckc_blame_sound.specs.ckc_bounds_points.specs.Frames.{local_at}
use Rattle.ckc_blame_sound.specs.ckc_bounds_points.specs.Flow.{State}
use Rattle.ckc_blame_sound.specs.ckc_bounds_points.specs.Forms.{moved_form}
use Rattle.ckc_blame_sound.specs.ckc_bounds_ranges.specs.Rows.{range_moved, range_of_bounds, range_widened, range_by, range_of_local}
use Rattle.ckc_blame_sound.specs.ckc_bounds_views.specs.Parts.{NodeView, with_last}
use Rattle.ckc_blame_sound.specs.ckc_bounds_views.specs.Fresh.{own_fresh}
use Rattle.ckc_blame_sound.specs.ckc_bounds_views.specs.Conditions.{widening}
use Rattle.ckc_blame_sound.specs.ckc_bounds_views.specs.Places.{with_own, pointer_place}
use Rattle.ckc_blame_sound.specs.ckc_bounds_views.specs.Ranges.{pointer_range}
use Rattle.ckc_blame_sound.specs.ckc_bounds_statements.specs.Paths.{Here}
use Rattle.ckc_source.specs.declared.expr.Shift.{Shift}
use Rattle.ckc_source.specs.declared.outcome.Value.{Value}
use Rattle.ckc_source.specs.Eval.{Store, stops, plain, at_address, given, moved_exactly, moves_checked, moves, end_address, evaluated}
use Rattle.ckc_source.specs.Runs.{is_true}
use Rattle.ckc_source.specs.Words.{exact, as_address}
use Rattle.ckc_build_values.specs.Kinds.{pointee_of, size_behind}
use Rattle.ckc_build_values.specs.Ends.{end_at}
use Rattle.ckc_build_values.specs.Expressions.{local_in}
use Rattle.ckc_blame_sound.specs.Settings.{Setting}
use Rattle.ckc_blame_sound.specs.Values.{IsWordOf}
use Rattle.ckc_blame_sound.specs.Points.{IsReadable, IsBounded, AreBounded, HoldsAt}
use Rattle.ckc_typed.specs.declared.environment.Globals.{Globals}
use Rattle.ckc_blame_sound.specs.Typed.{Agrees}
use Rattle.ckc_blame_pointers.specs.Valuations.{Valuation, Fits, address_by, HasEnds, IsTrueBetween, IsInRange, IsReadIn, BaseBetween, RangeBetween}
use Rattle.ckc_blame_pointers.specs.Covered.{IsLocalBase, IsLocalForm, DeclareLocals, IsInScope}
use Rattle.ckc_blame_pointers.specs.Meant.{IsNotStuck}
use Rattle.ckc_blame_pointers.proofs.Claims.{SideGoes, Claims, no_one, weaker, stays, not_placed}
use Rattle.ckc_blame_pointers.proofs.Reading.{Ranged, Reads, reads_gives, ok_gives, end_is, range_local, local_reads}

-- a pointer that is moved without wrapping, unless that stops
pub moved_goes : (Q : Value → Type 0) (shift : Shift) (v : Value) (k : ℕ) → shift.checked ≡ true
    → ((a : ℕ) → (v.number ≡ 0 → ⊥) → moved_exactly shift v.number (exact shift.index k) ≡ pos a → a < 2 ^ 32 → Q (record { number = a; range = v.range }))
    → IsNotStuck Q (moves shift v k)
moved_goes Q shift v k checked next =
    subst (λ (b : Bool). IsNotStuck Q (if b then moves_checked shift v k else plain (applied (if shift.back then binary.Sub else binary.Add) v.number (applied binary.Mul shift.size k)))) (sym checked) (by_null (v.number == 0) refl)
  where
    by_address : (z : ℤ) → moved_exactly shift v.number (exact shift.index k) ≡ z → (v.number ≡ 0 → ⊥)
        → IsNotStuck Q (given (at_address (as_address z) shift.at) (λ a. Ok (record { number = a; range = v.range })))
    by_address (pos n) e some = by (nat_lt n (2 ^ 32)) refl
      where
        by : (b : Bool) → nat_lt n (2 ^ 32) ≡ b
            → IsNotStuck Q (given (at_address (if b then Some n else None) shift.at) (λ a. Ok (record { number = a; range = v.range })))
        by true h = next n some e (ltb-true n (2 ^ 32) h)
        by false h = tt
    by_address (negsuc n) e some = tt

    by_null : (b : Bool) → (v.number == 0) ≡ b
        → IsNotStuck Q (if b then stops check.Arith shift.at else given (at_address (as_address (moved_exactly shift v.number (exact shift.index k))) shift.at) (λ a. Ok (record { number = a; range = v.range })))
    by_null true e = tt
    by_null false e = by_address (moved_exactly shift v.number (exact shift.index k)) refl (λ z. let same : (v.number == 0) ≡ true = ap (λ n. n == 0) z in absurd (cc))

-- the types of the fresh variables that a node needs at a point, its own included
abbrev pub node_fresh : CType → NodeView → State → List CType
node_fresh t n at = with_last (n.fresh at) (own_fresh t n at.facts)

module _ (s : Setting) (store : Store) (entry : List ℕ) (here : Here) (h : HoldsAt s store entry here) where
  -- what is claimed of a node of a type
  abbrev pub NodeClaims : CType → NodeView → Value → Type 0
  NodeClaims t n p = Claims s store entry here t (with_own t n) (pointer_place t n) (pointer_range t n) (node_fresh t n) n.behind n.target n.is_zero n.side p

  -- what reads through no pointer widens nothing
  pub narrow : (n : NodeView) → n.behind ≡ None → AreBounded s store (widening s.frame n.behind (n.target 0 here.at.facts) here.at).widened here.seen
  narrow n none = subst (λ k. AreBounded s store (widening s.frame k (n.target 0 here.at.facts) here.at).widened here.seen) (sym none) h.widened

  -- what is no pointer
  pub integer_claims : (t : CType) (n : NodeView) → is_pointer t ≡ false → n.behind ≡ None → (p : Value) → IsWordOf t p.number → (n.null ≡ true → p.number ≡ 0) → (n.is_zero ≡ true → p.number ≡ 0)
      → ((b : Bool) → (p.number == 0) ≡ not b → SideGoes s store entry here (n.side b here.at)) → NodeClaims t n p
  integer_claims t n bare none p word null zero sides = record {
    word = word;
    placed = λ first fresh before low little are fits. not_placed s store entry here t n (first + with_own t n) (node_fresh t n here.at) first fresh before p bare null little are fits;
    one = no_one s store entry t p.number bare;
    zero = zero;
    wide = λ e. narrow n none;
    sides = sides;
  }

  -- ... and leaves the point
  pub quiet_claims : (t : CType) (n : NodeView) → is_pointer t ≡ false → n.behind ≡ None → n.null ≡ false → n.is_zero ≡ false → ((b : Bool) → n.side b here.at ≡ here.at)
      → (p : Value) → IsWordOf t p.number → NodeClaims t n p
  quiet_claims t n bare none known some same p word =
      integer_claims t n bare none p word (λ e. absurd (cc)) (λ e. absurd (cc)) (λ b e. subst (SideGoes s store entry here) (sym (same b)) (stays s store entry here h))

  -- ---- a local

  module _ (globals : Globals) (agrees : Agrees globals s) (declares : DeclareLocals s) (k : ℕ) (scope : IsInScope s here.seen k) where
    abbrev word_there : ℕ
    word_there = slice_index store.locals k

    local_form : (first limit : ℕ) (f : Form) → IsLocalForm s f → BaseBetween first limit f.base
    local_form first limit f g = by f.base g.based
      where
        by : (b : Option Base) → IsLocalBase b → BaseBetween first limit b
        by (Some (base.Local j)) g = tt
        by (Some (base.Array j)) g = tt
        by (Some (base.Value j)) g = absurd g
        by None g = absurd g

    not_any : (o : Option Local) (wide : Bool) → range_by o wide ≡ range.Any → ⊥
    not_any None wide e = absurd (cc)
    not_any (Some l) false e = by l.bounds e
      where
        by : (b : Bounds) → range_of_bounds b ≡ range.Any → ⊥
        by bounds.Unknown e = absurd (cc)
        by (bounds.Known low high) e = absurd (cc)
    not_any (Some l) true e = by l.bounds e
      where
        by : (b : Bounds) → range_widened b ≡ range.Any → ⊥
        by bounds.Unknown e = absurd (cc)
        by (bounds.Known low high) e = one (moved_form (Some high) (pos 1)) e
          where
            one : (o : Option Form) → range_moved low o ≡ range.Any → ⊥
            one None e = absurd (cc)
            one (Some f) e = absurd (cc)

    abbrev end_of : Form → ℤ
    end_of f = end_address store.locals (size_behind s.text.layout scope.local.ctype) word_there (end_at s.text s.variables k f)

    end_there : (v : Valuation) → Fits s.frame store.locals v → (f : Form) → IsLocalForm s f → end_of f ≡ address_by s store.locals v (size_behind s.text.layout scope.local.ctype) f
    end_there v fits f g = end_is globals s agrees store.locals v fits k (size_behind s.text.layout scope.local.ctype) f g

    -- A pointer local may be read within its bounds, whatever is widened, as long as that may be read so.
    pub local_readable : (widened : List ℕ) → AreBounded s store widened here.seen → (v : Valuation) → Fits s.frame store.locals v → IsReadIn s store v scope.local.ctype (range_of_local s.frame k widened) word_there
    local_readable widened bounded v fits = by (range_of_local s.frame k widened) refl (subst (IsBounded s store widened k) scope.there (bounded k scope.seen_there))
      where
        by : (r : Range) → range_of_local s.frame k widened ≡ r → IsReadable s store k scope.local.ctype r → IsReadIn s store v scope.local.ctype r word_there
        by range.Missing e readable = tt
        by range.Any e readable = absurd (not_any (local_at s.frame k) (list_any (λ p. p == k) widened) e)
        by (range.Known low high) e readable =
            let forms = range_local s declares k scope.local scope.there widened low high e in
            let got = ok_gives (Reads store.shapes store.blocks (pointee_of s.text.layout scope.local.ctype) word_there (end_of low) (end_of high)) _ readable
            (reads_gives store.shapes store.blocks (pointee_of s.text.layout scope.local.ctype) word_there (end_of low) (end_of high) readable) in
            ends low high forms.0 forms.1 got.0 got.1.ranged_there
          where
            ends : (low high : Form) → IsLocalForm s low → IsLocalForm s high → (p : Value)
                → (word_there ≡ 0) ⊎ Ranged store.shapes store.blocks (pointee_of s.text.layout scope.local.ctype) word_there (end_of low) (end_of high) p
                → (word_there ≡ 0) ⊎ IsTrueBetween s store v scope.local.ctype low high word_there
            ends low high f g p (inl z) = inl z
            ends low high f g p (inr r) = inr (record {
              from = r.from;
              to = r.upto;
              low_is = r.low_is ∙ end_there v fits low f;
              high_is = r.high_is ∙ end_there v fits high g;
              true_there = r.true_there;
            })

    -- The bounds of a local name no value.
    pub local_between : (widened : List ℕ) (first limit : ℕ) → RangeBetween first limit (range_of_local s.frame k widened)
    local_between widened first limit = by (range_of_local s.frame k widened) refl
      where
        by : (r : Range) → range_of_local s.frame k widened ≡ r → RangeBetween first limit r
        by range.Missing e = tt
        by range.Any e = tt
        by (range.Known low high) e = let forms = range_local s declares k scope.local scope.there widened low high e in (local_form first limit low forms.0, local_form first limit high forms.1)

    -- what a pointer local is read as
    abbrev pub LocalComes : Range → Value → Type 0
    LocalComes r p = (p.number ≡ word_there)
        × ((v : Valuation) → Fits s.frame store.locals v → IsInRange s store v scope.local.ctype r p)

    pub local_comes : (r : Range) → r ≡ range_of_local s.frame k here.at.widened → IsNotStuck (LocalComes r) (evaluated store (local_in s.text s.variables scope.local.ctype k r))
    local_comes range.Missing e = (refl, λ v fits. tt)
    local_comes range.Any e = absurd (not_any (local_at s.frame k) (list_any (λ p. p == k) here.at.widened) (sym e))
    local_comes (range.Known low high) e =
        weaker (evaluated store (local_in s.text s.variables scope.local.ctype k (range.Known low high)))
        (local_reads s store entry here h k scope.local scope.there scope.seen_there low high (sym e))
        (λ p is reads. (reads.number, λ v fits. ends p v fits reads.number reads.ranged_there))
      where
        forms : IsLocalForm s low × IsLocalForm s high
        forms = range_local s declares k scope.local scope.there here.at.widened low high (sym e)

        ends : (p : Value) (v : Valuation) → Fits s.frame store.locals v → p.number ≡ word_there → (word_there ≡ 0) ⊎ Ranged store.shapes store.blocks (pointee_of s.text.layout scope.local.ctype) word_there (end_of low) (end_of high) p
            → (p.number ≡ 0) ⊎ HasEnds s store v scope.local.ctype low high p
        ends p v fits same (inl z) = inl (same ∙ z)
        ends p v fits same (inr g) = inr (record {
          from = g.from;
          to = g.upto;
          range = λ checked. g.range;
          low_is = g.low_is ∙ end_there v fits low forms.0;
          high_is = g.high_is ∙ end_there v fits high forms.1;
          true_there = subst (λ n. is_true store.shapes store.blocks (pointee_of s.text.layout scope.local.ctype) n g.from g.upto ≡ true) (sym same) g.true_there;
        })
