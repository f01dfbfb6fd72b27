-- The element that an access goes to through a checked pointer lies in a true range.
use Rattle.std.proofs.Common.{◌≡◌, ◌⊎◌, ⊎_elim, inl, inr, refl, sym, ap, subst, ◌∙◌, ℕ, true, false, List}
use Rattle.std.specs.Prelude.{◌+◌, ◌<◌, ◌^◌, length, pos, Option, None, Some, Ok}
use Rattle.ckc_base.specs.declared.arithmetic.Mode.{Mode}
use Rattle.ckc_base.specs.declared.arithmetic.Width.{Width}
use Rattle.ckc_base.specs.declared.places.Pos.{Pos}
use Rattle.ckc_types.specs.declared.types.Kind.{Kind}
use Rattle.ckc_types.specs.declared.types.Kind.TheVariants as kind
use Rattle.ckc_types.specs.declared.types.CType.{CType}
use Rattle.ckc_linear.specs.declared.forms.Form.{Form}
use Rattle.ckc_typed.specs.Conversions.{is_terminated_kind}
use Rattle.ckc_typed.specs.Operands.{is_raw_kind}
use Rattle.ckc_typed.specs.Trees.{NotedExpr}
use Rattle.ckc_typed.specs.Types.{kind_of}
use Rattle.ckc_blame_sound.specs.ckc_bounds_views.specs.Judged.{is_counted_kind}
use Rattle.ckc_blame_sound.specs.ckc_bounds_views.specs.Views.{view}
use Rattle.ckc_blame_sound.specs.ckc_bounds_statements.specs.Paths.{Here}
use Rattle.ckc_source.specs.declared.expr.Access.{Access}
use Rattle.ckc_source.specs.declared.expr.Integer.{Integer}
use Rattle.ckc_source.specs.declared.expr.Integer.TheVariants.{Int}
use Rattle.ckc_source.specs.declared.expr.Pointee.{Pointee}
use Rattle.ckc_source.specs.declared.expr.Through.TheVariants as through
use Rattle.ckc_source.specs.declared.outcome.Place.{Place}
use Rattle.ckc_source.specs.declared.outcome.Range.TheVariants.{Within, Without}
use Rattle.ckc_source.specs.declared.outcome.Value.{Value}
use Rattle.ckc_source.specs.Code.{Expr, Number, Memory}
use Rattle.ckc_source.specs.Eval.{Store, given, plain, element, element_through, exact_element, evaluated}
use Rattle.ckc_source.specs.Runs.{is_true}
use Rattle.ckc_source.specs.Steps.{aimed, aims_at, terminator_at}
use Rattle.ckc_source.specs.Words.{exact, elements_behind}
use Rattle.ckc_build_values.specs.Kinds.{through_kind, pointee_of, size_behind}
use Rattle.ckc_blame_sound.specs.Bodies.{AreFresh}
use Rattle.ckc_blame_sound.specs.Points.{HoldsAt}
use Rattle.ckc_blame_sound.specs.Settings.{Setting}
use Rattle.ckc_blame_sound.specs.Cells.{IsReached}
use Rattle.ckc_blame_pointers.specs.Covered.{DeclareOnes, IsSoundStore}
use Rattle.ckc_blame_pointers.specs.Owed.{Comes}
use Rattle.ckc_blame_pointers.specs.Valuations.{Valuation, HasEnds}
use Rattle.ckc_blame_pointers.proofs.Binary.{ExprClaims}
use Rattle.ckc_blame_pointers.proofs.Elements.{IsRanged}
use Rattle.ckc_blame_pointers.proofs.Loads.{IsTested, element_goes, exact_goes, element_is, exact_is, reached_by, tested_pointer}
use Rattle.ckc_blame_pointers.proofs.Numbers.{nothing_behind, same_number}
use Rattle.ckc_blame_pointers.proofs.Truths.{first_reached}
use Rattle.ckc_blame_given.specs.Targets.{IsThrough}
use Rattle.ckc_blame_given.proofs.Comes.{comes_on, from_number}

-- An access through a pointer of a type goes to an element of a true range, and is tested at the end of it, or before.
pub record IsHit (s : Setting) (store : Store) (t : CType) (access : Access) (x : Value) (a : ℕ) : Type 0 where
  pub low : ℕ
  pub high : ℕ
  pub true_there : is_true store.shapes store.blocks (pointee_of s.text.layout t) x.number low high ≡ true
  pub reached : IsReached (pointee_of s.text.layout t) x.number low high a
  pub same : terminator_at access.through x.range a access.at ≡ terminator_at access.through (Within low high) a access.at
  pub how : (access.through ≡ through.Terminated) ⊎ (a < high)

-- a counted pointer is checked
counted_checked : (k : Option Kind) → is_counted_kind k ≡ true → is_raw_kind k ≡ false
counted_checked (Some kind.Arr) c = refl
counted_checked (Some kind.Nt) c = refl
counted_checked (Some kind.One) c = refl
counted_checked (Some kind.Raw) c = absurd (cc)
counted_checked None c = refl

-- where an access ends if it is not tested at the end of a range
before_end : (to : Pointee) (n low high a : ℕ) → to.terminated ≡ false → IsReached to n low high a → a < high
before_end to n low high a bare r = ⊎_elim (λ h. h) (λ h. let ends = h.1 in let open_end = bare in absurd (cc)) r.before

module _ (mode : Mode) (s : Setting) (store : Store) (entry : List ℕ) (next : ℕ) (ready : IsSoundStore s store next) (here : Here) (h : HoldsAt s store entry here) (e : NotedExpr) (place : Pos) (v : Expr)
    (left : Comes mode (ExprClaims s store entry here e) (evaluated store v)) (offset : ℕ) (Q : Place → Type 0) (width : Width) where
  abbrev pub access_by : Integer → Access
  access_by index = record { through = through_kind (kind_of e.note.ctype); at = place; size = size_behind s.text.layout e.note.ctype; index = index; offset = offset }

  abbrev to : Pointee
  to = pointee_of s.text.layout e.note.ctype

  abbrev sized : ℕ
  sized = size_behind s.text.layout e.note.ctype

  -- what is left to show
  abbrev pub Goes : Integer → Expr → Type 0
  Goes index w = (x k : Value) → evaluated store v ≡ Ok x → evaluated store w ≡ Ok k → (a : ℕ) → pos a ≡ elements_behind x.number sized (exact index k.number)
      → IsHit s store e.note.ctype (access_by index) x a → Comes mode Q (aims_at store width (access_by index) x.range a)

  module _ (fresh : ℕ) (few : (view s.frame e).values + 1 < 2 ^ 32) (little : fresh + length ((view s.frame e).fresh here.at) < 2 ^ 32) (are : AreFresh s.frame fresh) where
    pub counted_aims : (index : Integer) (w : Expr) (R : Value → Type 0) → Comes mode R (evaluated store w) → is_counted_kind (kind_of e.note.ctype) ≡ true
        → ((x : Value) → ExprClaims s store entry here e x → IsRanged s store entry next ready here h e fresh few little are x) → Goes index w → Comes mode Q (aimed store (Memory width (access_by index) v w))
    unfolding IsRanged
    counted_aims index w R right counted ranged goes =
        comes_on mode (ExprClaims s store entry here e) Q (evaluated store v) (λ x. given (evaluated store w) (λ k. given (element access x k.number) (aims_at store width access x.range))) left
        (λ x is c.
        comes_on mode R Q (evaluated store w) (λ k. given (element access x k.number) (aims_at store width access x.range)) right
        (λ k there d. by x k is there (ranged x c)))
      where
        access : Access
        access = access_by index

        tested : IsTested access.through to
        tested = tested_pointer s.text.layout e.note.ctype counted

        how_by : (q : Option Kind) → kind_of e.note.ctype ≡ q → is_counted_kind q ≡ true → (n low high a : ℕ) → IsReached to n low high a → (access.through ≡ through.Terminated) ⊎ (a < high)
        how_by (Some kind.Arr) is c n low high a r = inr (before_end to n low high a (ap is_terminated_kind is) r)
        how_by (Some kind.Nt) is c n low high a r = inl (ap through_kind is)
        how_by (Some kind.One) is c n low high a r = absurd (cc)
        how_by (Some kind.Raw) is c n low high a r = absurd (cc)
        how_by None is c n low high a r = absurd (cc)

        by : (x k : Value) → evaluated store v ≡ Ok x → evaluated store w ≡ Ok k
            → (x.number ≡ 0) ⊎ ((q : Valuation) × (low : Form) × (high : Form) × HasEnds s store q e.note.ctype low high x)
            → Comes mode Q (given (element access x k.number) (aims_at store width access x.range))
        by x k is there (inl z) =
            comes_on mode (λ a. x.number ≡ 0 → ⊥) Q (element access x k.number) (aims_at store width access x.range)
            (from_number mode (λ a. x.number ≡ 0 → ⊥) (element access x k.number) (element_goes access x k.number (λ a. x.number ≡ 0 → ⊥) plain to tested (inl z) (λ a some at. some)))
            (λ a at some. absurd (some z))
        by x k is there (inr (q, low, high, g)) =
            comes_on mode (λ a. Unit {0}) Q (element access x k.number) (aims_at store width access x.range)
            (from_number mode (λ a. Unit {0}) (element access x k.number) (element_goes access x k.number (λ a. Unit {0}) plain to tested (inr (g.from, g.to, range_is)) (λ a some at. tt)))
            (λ a at some.
            let reached = reached_by access x k.number to g.from g.to a tested refl range_is at in
            goes x k is there a (element_is access x k.number a to tested at) (record {
              low = g.from;
              high = g.to;
              true_there = g.true_there;
              reached = reached;
              same = ap (λ r. terminator_at access.through r a access.at) range_is;
              how = how_by (kind_of e.note.ctype) refl counted x.number g.from g.to a reached;
            }))
          where
            range_is : x.range ≡ Within g.from g.to
            range_is = g.range (counted_checked (kind_of e.note.ctype) counted)

  pub single_aims : kind_of e.note.ctype ≡ Some kind.One → DeclareOnes s → Goes Int (Number 0) → Comes mode Q (aimed store (Memory width (access_by Int) v (Number 0)))
  single_aims single declared goes =
      comes_on mode (ExprClaims s store entry here e) Q (evaluated store v) (λ x. given (element access x 0) (aims_at store width access x.range)) left
      (λ x is c. subst (λ q. Comes mode Q (given q (aims_at store width access x.range))) (sym (through_one x)) (by x is (c.one declared single)))
    where
      access : Access
      access = access_by Int

      through_one : (x : Value) → element access x 0 ≡ exact_element access x 0
      through_one x = ap (λ k. element_through (through_kind k) access x 0) single

      by : (x : Value) → evaluated store v ≡ Ok x → (x.number ≡ 0) ⊎ (is_true store.shapes store.blocks to x.number x.number (x.number + sized) ≡ true)
          → Comes mode Q (given (exact_element access x 0) (aims_at store width access x.range))
      by x is (inl z) =
          comes_on mode (λ a. x.number ≡ 0 → ⊥) Q (exact_element access x 0) (aims_at store width access x.range)
          (from_number mode (λ a. x.number ≡ 0 → ⊥) (exact_element access x 0) (exact_goes access x 0 (λ a. x.number ≡ 0 → ⊥) plain (λ a some at. some)))
          (λ a at some. absurd (some z))
      by x is (inr points) =
          comes_on mode (λ a. Unit {0}) Q (exact_element access x 0) (aims_at store width access x.range)
          (from_number mode (λ a. Unit {0}) (exact_element access x 0) (exact_goes access x 0 (λ a. Unit {0}) plain (λ a some at. tt)))
          (λ a at some.
          let exactly = exact_is access x 0 a at in
          let first : a ≡ x.number = same_number a x.number (sym exactly ∙ nothing_behind x.number sized) in
          let reached : IsReached to x.number x.number (x.number + sized) a =
          subst (IsReached to x.number x.number (x.number + sized)) (sym first) (first_reached store.shapes store.blocks to x.number points) in
          goes x (record { number = 0; range = Without }) is refl a (sym exactly) (record {
            low = x.number;
            high = x.number + sized;
            true_there = points;
            reached = reached;
            same = ap (λ k. terminator_at (through_kind k) x.range a place) single ∙ sym (ap (λ k. terminator_at (through_kind k) (Within x.number (x.number + sized)) a place) single);
            how = inr (before_end to x.number x.number (x.number + sized) a (ap is_terminated_kind single) reached);
          }))

  -- `*p`, and the structure of `p->m`
  pub through_aims : IsThrough s e → (fresh : ℕ) (few : (view s.frame e).values + 1 < 2 ^ 32) (little : fresh + length ((view s.frame e).fresh here.at) < 2 ^ 32) (are : AreFresh s.frame fresh)
      → (is_counted_kind (kind_of e.note.ctype) ≡ true → (x : Value) → ExprClaims s store entry here e x → IsRanged s store entry next ready here h e fresh few little are x)
      → Goes Int (Number 0) → Comes mode Q (aimed store (Memory width (access_by Int) v (Number 0)))
  through_aims t fresh few little are ranged goes =
      ⊎_elim (λ counted. counted_aims fresh few little are Int (Number 0) (λ x. Unit {0}) tt counted (ranged counted) goes) (λ one. single_aims one.0 one.1 goes) t.through
