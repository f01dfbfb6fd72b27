-- The claims of what is read through a `_Ptr`: an integer, or one that is a member.
use Rattle.std.proofs.Common.{◌≡◌, ◌⊎◌, inl, inr, sym, ap, subst, ◌∙◌, ℕ, Bool, true, false, List}
use Rattle.std.specs.Prelude.{◌+◌, Some}
use Rattle.ckc_base.specs.declared.places.Pos.{Pos}
use Rattle.ckc_types.specs.declared.types.Kind.TheVariants as kind
use Rattle.ckc_types.specs.declared.types.CType.{CType}
use Rattle.ckc_typed.specs.Trees.{NotedExpr}
use Rattle.ckc_typed.specs.Types.{is_integer, kind_of, element_of}
use Rattle.ckc_blame_sound.specs.ckc_bounds_points.specs.Flow.{State}
use Rattle.ckc_blame_sound.specs.ckc_bounds_views.specs.Conditions.{widening, widening_side}
use Rattle.ckc_blame_sound.specs.ckc_bounds_views.specs.Parts.{NodeView}
use Rattle.ckc_blame_sound.specs.ckc_bounds_statements.specs.Paths.{Here}
use Rattle.ckc_source.specs.declared.expr.Access.{Access}
use Rattle.ckc_source.specs.declared.expr.Integer.TheVariants.{Int}
use Rattle.ckc_source.specs.declared.outcome.Value.{Value}
use Rattle.ckc_source.specs.Code.{Expr, Load, Number}
use Rattle.ckc_source.specs.Eval.{Store, given, element, element_through, exact_element, place_in, loads, evaluated}
use Rattle.ckc_source.specs.Runs.{is_true}
use Rattle.ckc_build_values.specs.Kinds.{width_of, through_kind, pointee_of, size_behind}
use Rattle.ckc_blame_sound.specs.Settings.{Setting}
use Rattle.ckc_blame_sound.specs.Points.{AreBounded, HoldsAt}
use Rattle.ckc_blame_sound.specs.Cells.{IsPart}
use Rattle.ckc_blame_pointers.proofs.Truths.{first_reached}
use Rattle.ckc_blame_pointers.specs.Covered.{DeclareOnes, IsSoundStore}
use Rattle.ckc_blame_pointers.specs.Meant.{IsNotStuck}
use Rattle.ckc_blame_pointers.proofs.Claims.{goes_on}
use Rattle.ckc_blame_pointers.proofs.Nodes.{NodeClaims}
use Rattle.ckc_blame_pointers.proofs.Binary.{ExprClaims}
use Rattle.ckc_blame_pointers.proofs.Loads.{exact_goes, exact_is, part_loads}
use Rattle.ckc_blame_pointers.proofs.Elements.{integer_read}
use Rattle.ckc_blame_pointers.proofs.Numbers.{nothing_behind, same_number}

module _ (s : Setting) (store : Store) (entry : List ℕ) (next : ℕ) (ready : IsSoundStore s store next) (here : Here) (h : HoldsAt s store entry here) (e : NotedExpr) (single : kind_of e.note.ctype ≡ Some kind.One) (declared : DeclareOnes s) (place : Pos) (v : Expr)
    (left : IsNotStuck (ExprClaims s store entry here e) (evaluated store v)) (offset : ℕ) (u : CType) (part : IsPart s.text.layout (element_of e.note.ctype) offset (width_of u)) (integer : is_integer u ≡ true) where
  abbrev access : Access
  access = record { through = through_kind (kind_of e.note.ctype); at = place; size = size_behind s.text.layout e.note.ctype; index = Int; offset = offset }

  abbrev Points : ℕ → Type 0
  Points n = is_true store.shapes store.blocks (pointee_of s.text.layout e.note.ctype) n n (n + size_behind s.text.layout e.note.ctype) ≡ true

  pub single_claims : (n : NodeView) → n.null ≡ false → n.is_zero ≡ false → ((b : Bool) → n.side b here.at ≡ widening_side s.frame n.behind (n.target 0) b here.at) → widening s.frame n.behind (n.target 0 here.at.facts) here.at ≡ here.at
      → IsNotStuck (NodeClaims s store entry here h u n) (evaluated store (Load (width_of u) access v (Number 0)))
  single_claims n known some same behind =
      goes_on (ExprClaims s store entry here e) (NodeClaims s store entry here h u n) (evaluated store v)
      (λ x. given (element access x 0) (λ a. loads store (width_of u) (place_in a offset))) left
      (λ x there c.
      subst (λ q. IsNotStuck (NodeClaims s store entry here h u n) (given q (λ a. loads store (width_of u) (place_in a offset)))) (sym (through_one x))
      (exact_goes access x 0 (NodeClaims s store entry here h u n) (λ a. loads store (width_of u) (place_in a offset))
      (λ a some at. reads x a some (same_number a x.number (sym (exact_is access x 0 a at) ∙ nothing_behind x.number (size_behind s.text.layout e.note.ctype))) (c.one declared single))))
    where
      through_one : (x : Value) → element access x 0 ≡ exact_element access x 0
      through_one x = ap (λ k. element_through (through_kind k) access x 0) single

      narrow : AreBounded s store (widening s.frame n.behind (n.target 0 here.at.facts) here.at).widened here.seen
      narrow = subst (λ (at : State). AreBounded s store at.widened here.seen) (sym behind) h.widened

      at_itself : (m a : ℕ) → Points m → a ≡ m → IsNotStuck (NodeClaims s store entry here h u n) (loads store (width_of u) (place_in a offset))
      at_itself m a points is =
          subst (λ b. IsNotStuck (NodeClaims s store entry here h u n) (loads store (width_of u) (place_in b offset))) (sym is)
          (part_loads s store next ready.sound ready.names ready.shapes (NodeClaims s store entry here h u n) e.note.ctype m m (m + size_behind s.text.layout e.note.ctype) m offset u part points
          (first_reached store.shapes store.blocks (pointee_of s.text.layout e.note.ctype) m points)
          (λ c there word. integer_read s store entry next ready here h u n integer known some same c word (λ z. narrow)))

      reads : (x : Value) (a : ℕ) → (x.number ≡ 0 → ⊥) → a ≡ x.number → (x.number ≡ 0) ⊎ Points x.number
          → IsNotStuck (NodeClaims s store entry here h u n) (loads store (width_of u) (place_in a offset))
      reads x a not_null is (inl z) = absurd (not_null z)
      reads x a not_null is (inr points) = at_itself x.number a points is
