-- What is reached through a pointer that is judged: the elements that its true range reaches.
use Rattle.std.proofs.Common.{◌≡◌, ◌⊎◌, inl, inr, ⊎_elim, refl, sym, ap, subst, ◌∙◌, ℕ, ◌+◌, true, false, List}
use Rattle.std.specs.Prelude.{◌<◌, ◌^◌, length, Some}
use Rattle.ckc_base.specs.declared.places.Pos.{Pos}
use Rattle.ckc_types.specs.declared.types.Kind.TheVariants as kind
use Rattle.ckc_types.specs.declared.types.CType.{CType-F, out-CType}
use Rattle.ckc_typed.specs.Conversions.{is_terminated_kind}
use Rattle.ckc_typed.specs.Operands.{is_raw_kind}
use Rattle.ckc_typed.specs.Trees.{NotedExpr}
use Rattle.ckc_typed.specs.Types.{kind_of, element_of}
use Rattle.ckc_blame_sound.specs.ckc_bounds_views.specs.Judged.{is_counted_kind}
use Rattle.ckc_blame_sound.specs.ckc_bounds_views.specs.Views.{view}
use Rattle.ckc_blame_sound.specs.ckc_bounds_statements.specs.Paths.{Here}
use Rattle.ckc_source.specs.declared.expr.Access.{Access}
use Rattle.ckc_source.specs.declared.expr.Integer.{Integer}
use Rattle.ckc_source.specs.declared.expr.Integer.TheVariants.{Int}
use Rattle.ckc_source.specs.declared.outcome.Value.{Value}
use Rattle.ckc_source.specs.Code.{Expr}
use Rattle.ckc_source.specs.Eval.{Store, given, plain, element, element_through, evaluated}
use Rattle.ckc_source.specs.Runs.{is_true}
use Rattle.ckc_build_elaborate.specs.Shapes.{shapes_elaborated}
use Rattle.ckc_build_values.specs.Kinds.{through_kind, pointee_of, size_behind}
use Rattle.ckc_build_values.specs.Places.{element_place, target_place}
use Rattle.ckc_blame_sound.specs.Settings.{Setting}
use Rattle.ckc_blame_sound.specs.Points.{HoldsAt}
use Rattle.ckc_blame_sound.specs.Bodies.{AreFresh}
use Rattle.ckc_blame_sound.specs.Cells.{IsReached}
use Rattle.ckc_blame_sound.proofs.Objects.{are_members}
use Rattle.ckc_linear.specs.declared.forms.Form.{Form}
use Rattle.ckc_blame_pointers.specs.Valuations.{Valuation, HasEnds}
use Rattle.ckc_blame_pointers.specs.Covered.{DeclareOnes, IsThrough, IsSoundStore}
use Rattle.ckc_blame_pointers.specs.Meant.{IsNotStuck}
use Rattle.ckc_blame_pointers.proofs.Binary.{ExprClaims}
use Rattle.ckc_blame_pointers.proofs.Elements.{counted_checked, IsRanged}
use Rattle.ckc_blame_pointers.proofs.Loads.{IsTested, element_goes, exact_goes, exact_is, reached_by, tested_pointer}
use Rattle.ckc_blame_pointers.proofs.Numbers.{nothing_behind, same_number}
use Rattle.ckc_blame_pointers.proofs.Reach.{ComesTo, comes_by, comes_both, element_at, IsStructurePlace}
use Rattle.ckc_blame_pointers.proofs.Structures.{IsStructureAt, structure_at}
use Rattle.ckc_blame_pointers.proofs.Truths.{first_reached}

module _ (s : Setting) (store : Store) (entry : List ℕ) (next : ℕ) (ready : IsSoundStore s store next) (here : Here) (h : HoldsAt s store entry here) (e : NotedExpr) (fresh : ℕ) (few : (view s.frame e).values + 1 < 2 ^ 32) (little : fresh + length ((view s.frame e).fresh here.at) < 2 ^ 32) (are : AreFresh s.frame fresh) (v : Expr)
    (left : IsNotStuck (ExprClaims s store entry here e) (evaluated store v))
    (ranged : is_counted_kind (kind_of e.note.ctype) ≡ true → (x : Value) → ExprClaims s store entry here e x → IsRanged s store entry next ready here h e fresh few little are x) where
  -- what holds of each element that a true range reaches
  abbrev pub HoldsReached : (ℕ → Type 0) → Type 0
  HoldsReached P =
      is_terminated_kind (kind_of e.note.ctype) ≡ false → (m low high a : ℕ) → is_true store.shapes store.blocks (pointee_of s.text.layout e.note.ctype) m low high ≡ true
      → IsReached (pointee_of s.text.layout e.note.ctype) m low high a → P a

  abbrev access_by : Pos → Integer → Access
  access_by place index = record { through = through_kind (kind_of e.note.ctype); at = place; size = size_behind s.text.layout e.note.ctype; index = index; offset = 0 }

  through_array : (Whole : ℕ → Type 0) → HoldsReached Whole → kind_of e.note.ctype ≡ Some kind.Arr → (place : Pos) (index : Integer) (x : Value) (i : ℕ) → ExprClaims s store entry here e x → ComesTo Whole (element (access_by place index) x i)
  unfolding IsRanged
  through_array Whole at_range array place index x i d = comes_by Whole (element (access_by place index) x i) (by (ranged counted x d))
    where
      counted : is_counted_kind (kind_of e.note.ctype) ≡ true
      counted = ap is_counted_kind array

      checked : is_raw_kind (kind_of e.note.ctype) ≡ false
      checked = counted_checked (kind_of e.note.ctype) counted

      tested : IsTested (access_by place index).through (pointee_of s.text.layout e.note.ctype)
      tested = tested_pointer s.text.layout e.note.ctype counted

      by : (x.number ≡ 0) ⊎ ((v : Valuation) × (low : Form) × (high : Form) × HasEnds s store v e.note.ctype low high x) → IsNotStuck (λ y. Whole y.number) (given (element (access_by place index) x i) plain)
      by (inl z) = element_goes (access_by place index) x i (λ y. Whole y.number) plain (pointee_of s.text.layout e.note.ctype) tested (inl z) (λ a some at. absurd (some z))
      by (inr (q, low, high, g)) =
          element_goes (access_by place index) x i (λ y. Whole y.number) plain (pointee_of s.text.layout e.note.ctype) tested (inr (g.from, g.to, g.range checked))
          (λ a some at. at_range (ap is_terminated_kind array) x.number g.from g.to a g.true_there (reached_by (access_by place index) x i (pointee_of s.text.layout e.note.ctype) g.from g.to a tested refl (g.range checked) at))

  through_one : (Whole : ℕ → Type 0) → HoldsReached Whole → kind_of e.note.ctype ≡ Some kind.One → DeclareOnes s → (place : Pos) (x : Value) → ExprClaims s store entry here e x → ComesTo Whole (element (access_by place Int) x 0)
  through_one Whole at_range one ones place x d =
      comes_by Whole (element (access_by place Int) x 0)
      (subst (λ q. IsNotStuck (λ y. Whole y.number) (given q plain)) (sym (ap (λ k. element_through (through_kind k) (access_by place Int) x 0) one))
      (exact_goes (access_by place Int) x 0 (λ y. Whole y.number) plain
      (λ a some at. by a some (same_number a x.number (sym (exact_is (access_by place Int) x 0 a at) ∙ nothing_behind x.number (size_behind s.text.layout e.note.ctype))) (d.one ones one))))
    where
      by : (a : ℕ) → (x.number ≡ 0 → ⊥) → a ≡ x.number
          → (x.number ≡ 0) ⊎ (is_true store.shapes store.blocks (pointee_of s.text.layout e.note.ctype) x.number x.number (x.number + size_behind s.text.layout e.note.ctype) ≡ true) → Whole a
      by a some is (inl z) = absurd (some z)
      by a some is (inr points) =
          subst Whole (sym is)
          (at_range (ap is_terminated_kind one) x.number x.number (x.number + size_behind s.text.layout e.note.ctype) x.number points
          (first_reached store.shapes store.blocks (pointee_of s.text.layout e.note.ctype) x.number points))

  -- `*p`, and the structure of `p->m`
  pub target_reached : (P : ℕ → Type 0) → HoldsReached P → IsThrough s e.note.ctype → (place : Pos) → ComesTo P (element_at store (target_place s.text.layout e.note.ctype place v))
  target_reached P at_range how place =
      comes_both (ExprClaims s store entry here e) (λ k. k.number ≡ 0) P (evaluated store v) (plain 0) (λ x k. element (access_by place Int) x k.number) left refl
      (λ x k d zero. subst (λ i. ComesTo P (element (access_by place Int) x i)) (sym zero)
      (⊎_elim (λ array. through_array P at_range array place Int x 0 d) (λ one. through_one P at_range one.0 one.1 place x d) how))

  -- `p[e]`
  pub element_reached : (P : ℕ → Type 0) → HoldsReached P → kind_of e.note.ctype ≡ Some kind.Arr → (place : Pos) (index : Integer) (w : Expr) (R : Value → Type 0) → IsNotStuck R (evaluated store w)
      → ComesTo P (element_at store (element_place s.text.layout e.note.ctype place index v w))
  element_reached P at_range array place index w R right =
      comes_both (ExprClaims s store entry here e) R P (evaluated store v) (evaluated store w) (λ x k. element (access_by place index) x k.number) left right
      (λ x k d c. through_array P at_range array place index x k.number d)

  -- ---- structures

  module _ (tag : ℕ) (struct : out-CType (element_of e.note.ctype) ≡ CType-F.Struct tag) where
    whole : HoldsReached (IsStructureAt store.blocks (element_of e.note.ctype))
    whole bare m low high a true_there r =
        structure_at s.text store.blocks (pointee_of s.text.layout e.note.ctype) refl tag struct bare m low high a r (shapes_elaborated s.text.layout) (are_members s.text.layout ready.names) ready.sound.memory.placed
        (subst (λ sh. is_true sh store.blocks (pointee_of s.text.layout e.note.ctype) m low high ≡ true) ready.shapes true_there)

    pub target_structure : IsThrough s e.note.ctype → (place : Pos) → IsStructurePlace store (element_of e.note.ctype) (target_place s.text.layout e.note.ctype place v)
    target_structure how place = record { begins = refl; there = target_reached (IsStructureAt store.blocks (element_of e.note.ctype)) whole how place }

    pub element_structure : kind_of e.note.ctype ≡ Some kind.Arr → (place : Pos) (index : Integer) (w : Expr) (R : Value → Type 0) → IsNotStuck R (evaluated store w)
        → IsStructurePlace store (element_of e.note.ctype) (element_place s.text.layout e.note.ctype place index v w)
    element_structure array place index w R right =
        record { begins = refl; there = element_reached (IsStructureAt store.blocks (element_of e.note.ctype)) whole array place index w R right }
