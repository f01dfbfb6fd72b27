-- The claims of what is read in unchecked code, wherever that is: an integer, a pointer, and a pointer that is a member.
use Rattle.std.proofs.Common.{◌≡◌, refl, sym, subst, ℕ, Bool, true, false, List}
use Rattle.std.specs.Prelude.{Option, None}
use Rattle.ckc_types.specs.declared.types.CType.{CType}
use Rattle.ckc_syntax.specs.declared.tree.Name.{Name}
use Rattle.ckc_typed.specs.Conversions.{is_terminated_kind}
use Rattle.ckc_typed.specs.Types.{is_integer, is_pointer, kind_of}
use Rattle.ckc_blame_sound.specs.ckc_bounds_points.specs.Flow.{State}
use Rattle.ckc_blame_sound.specs.ckc_bounds_points.specs.Shown.{Known}
use Rattle.ckc_blame_sound.specs.ckc_bounds_views.specs.declared.variables.Own.{Own}
use Rattle.ckc_blame_sound.specs.ckc_bounds_views.specs.Conditions.{widening_side}
use Rattle.ckc_blame_sound.specs.ckc_bounds_views.specs.Parts.{NodeView}
use Rattle.ckc_blame_sound.specs.ckc_bounds_views.specs.Ranges.{range_by_type}
use Rattle.ckc_blame_sound.specs.ckc_bounds_statements.specs.Paths.{Here}
use Rattle.ckc_source.specs.declared.expr.Count.{Count}
use Rattle.ckc_source.specs.declared.outcome.Value.{Value}
use Rattle.ckc_source.specs.Eval.{Store, place_in, evaluated}
use Rattle.ckc_build_values.specs.Kinds.{count_of_kind, tag_of}
use Rattle.ckc_build_values.specs.Members.{count_of_member}
use Rattle.ckc_build_values.specs.Places.{Place, member_place, read_at}
use Rattle.ckc_blame_sound.specs.Settings.{Setting}
use Rattle.ckc_blame_sound.specs.Points.{AreBounded, HoldsAt}
use Rattle.ckc_blame_pointers.specs.Covered.{IsPointerMember, IsSoundStore}
use Rattle.ckc_blame_pointers.specs.Owed.{IfGives}
use Rattle.ckc_blame_pointers.proofs.Claims.{bare_wider}
use Rattle.ckc_blame_pointers.proofs.Elements.{integer_read}
use Rattle.ckc_blame_pointers.proofs.Given.{given_gives}
use Rattle.ckc_blame_pointers.proofs.Held.{IsMemberNode, held_gives}
use Rattle.ckc_blame_pointers.proofs.Loads.{word_gives}
use Rattle.ckc_blame_pointers.proofs.Nodes.{NodeClaims}
use Rattle.ckc_blame_pointers.proofs.Pointees.{pointee_gives}
use Rattle.ckc_blame_pointers.proofs.Reach.{element_at, got, place_reads}

module _ (s : Setting) (store : Store) (entry : List ℕ) (next : ℕ) (ready : IsSoundStore s store next) (here : Here) (h : HoldsAt s store entry here) where
  -- what is read in each element is read at a place
  place_gives : (P : Value → Type 0) (t : CType) (o : Option Count) (q : Place) → ((a : ℕ) → IfGives P (got store s.text.layout t q.access.offset o a)) → IfGives P (evaluated store (read_at s.text.layout t o q))
  place_gives P t o q next = subst (IfGives P) (sym (place_reads store s.text.layout t q o)) (given_gives P (element_at store q) (got store s.text.layout t q.access.offset o) (λ a is. next a))

  -- an integer that is read through no `_Nt_array_ptr`
  pub raw_integer : (t : CType) → is_integer t ≡ true → (n : NodeView) → n.null ≡ false → n.is_zero ≡ false → ((b : Bool) → n.side b here.at ≡ widening_side s.frame n.behind (n.target 0) b here.at)
      → is_terminated_kind n.behind ≡ false → (q : Place) → IfGives (NodeClaims s store entry here h t n) (evaluated store (read_at s.text.layout t None q))
  raw_integer t integer n known some same bare q =
      place_gives (NodeClaims s store entry here h t n) t None q
      (λ a. word_gives store ready.sound.bytes (NodeClaims s store entry here h t n) t (place_in a q.access.offset)
      (λ m word. integer_read s store entry next ready here h t n integer known some same m word
      (λ z. subst (λ (at : State). AreBounded s store at.widened here.seen) (sym (bare_wider s store entry n.behind bare (n.target 0 here.at.facts) here.at)) h.widened)))

  -- a pointer of a type that is read through a pointer of another one, which is no `_Nt_array_ptr`
  pub raw_pointer : (t p : CType) → is_pointer t ≡ true → is_terminated_kind (kind_of p) ≡ false → (n : NodeView) → n.stands_alone ≡ true → n.null ≡ false → ((first : ℕ) (facts : Known) → n.place t first facts ≡ None)
      → ((widened : List ℕ) → n.fresh (record here.at { widened = widened }) ≡ n.fresh here.at)
      → ((own : Own) (first fresh : ℕ) (widened : List ℕ) → n.range t own first fresh (record here.at { widened = widened }) ≡ range_by_type (kind_of t) own.value)
      → n.behind ≡ kind_of p → n.is_zero ≡ false → ((b : Bool) → n.side b here.at ≡ widening_side s.frame n.behind (n.target 0) b here.at)
      → (q : Place) → IfGives (NodeClaims s store entry here h t n) (evaluated store (read_at s.text.layout t (count_of_kind (kind_of t)) q))
  raw_pointer t p pointer bare n alone known nowhere kept ranged behind some same q =
      place_gives (NodeClaims s store entry here h t n) t (count_of_kind (kind_of t)) q
      (λ a. pointee_gives s store entry next ready here h t p pointer bare n alone known nowhere kept ranged behind some same a q.access.offset (count_of_kind (kind_of t)) refl)

  -- a pointer that is a member
  pub raw_member : (u t : CType) (n : Name) (c : IsPointerMember s store u t n) (made : NodeView) → IsMemberNode s here t (record { tag = c.tag; number = c.number }) made
      → (q : Place) → IfGives (NodeClaims s store entry here h t made) (evaluated store (read_at s.text.layout t (count_of_member s.text.layout (tag_of u) n) (member_place s.text.layout (tag_of u) n q)))
  raw_member u t n c made node q =
      place_gives (NodeClaims s store entry here h t made) t (count_of_member s.text.layout (tag_of u) n) (member_place s.text.layout (tag_of u) n q)
      (λ a. held_gives s store entry next ready here h u t n c made node a (member_place s.text.layout (tag_of u) n q).access.offset)
