-- What `.` reads: members of structures that have a place.
use Rattle.std.proofs.Common.{◌≡◌, refl, sym, ap, subst, ◌∙◌, ℕ, ◌+◌, Bool, true, false, List, arith}
use Rattle.std.specs.Prelude.{◌*◌, ◌<◌, slice_get, None, Some}
use Rattle.ckc_base.specs.declared.places.Pos.{Pos}
use Rattle.ckc_types.specs.declared.types.CType.{CType, CType-F, out-CType}
use Rattle.ckc_syntax.specs.declared.tree.Name.{Name}
use Rattle.ckc_syntax.specs.declared.tree.Node.{Node-F}
use Rattle.ckc_typed.specs.Layouts.{member_number}
use Rattle.ckc_typed.specs.Trees.{NotedExpr}
use Rattle.ckc_blame_sound.specs.ckc_bounds_views.specs.Fresh.{member_in, member_fresh}
use Rattle.ckc_blame_sound.specs.ckc_bounds_views.specs.Parts.{NodeView}
use Rattle.ckc_blame_sound.specs.ckc_bounds_views.specs.Ranges.{range_of_member}
use Rattle.ckc_blame_sound.specs.ckc_bounds_views.specs.Views.{node_view, view}
use Rattle.ckc_blame_sound.specs.ckc_bounds_statements.specs.Paths.{Here}
use Rattle.ckc_source.specs.declared.outcome.Range.TheVariants.{Without}
use Rattle.ckc_source.specs.Blocks.{Block, block_of}
use Rattle.ckc_source.specs.Eval.{Store, evaluated}
use Rattle.ckc_build_elaborate.specs.Objects.{object_elaborated, objects_elaborated}
use Rattle.ckc_build_values.specs.Kinds.{tag_of}
use Rattle.ckc_build_values.specs.Members.{offset_of, count_of_member}
use Rattle.ckc_build_values.specs.Names.{address_in, address_of}
use Rattle.ckc_build_values.specs.Places.{Place, object_place, member_place, read_at}
use Rattle.ckc_blame_sound.specs.Settings.{Setting}
use Rattle.ckc_blame_sound.specs.Points.{HoldsAt}
use Rattle.ckc_blame_sound.proofs.Types.{no_pointer}
use Rattle.ckc_blame_pointers.specs.Covered.{IsIntegerMember, IsPointerMember, IsStaticStructure, IsSoundStore}
use Rattle.ckc_blame_pointers.specs.Meant.{IsNotStuck}
use Rattle.ckc_blame_pointers.proofs.Arrays.{object_at}
use Rattle.ckc_blame_pointers.proofs.Held.{IsMemberNode}
use Rattle.ckc_blame_pointers.proofs.Members.{member_there}
use Rattle.ckc_blame_pointers.proofs.Nodes.{NodeClaims, quiet_claims}
use Rattle.ckc_blame_pointers.proofs.Reach.{IsStructurePlace, element_loads, got, member_reads}
use Rattle.ckc_blame_pointers.proofs.Structures.{IsWholeElement}
use Rattle.ckc_blame_pointers.proofs.Unwidened.{fresh_same}

-- ---- static structures

-- A static structure is the first element of its block.
pub object_structure : (s : Setting) (store : Store) (next : ℕ) → IsSoundStore s store next → (t : CType) (k : ℕ) → IsStaticStructure s t k → (at : Pos) → IsStructurePlace store t (object_place s.text t at k)
object_structure s store next ready t k c at = record { begins = refl; there = (whole, ap (λ (x : Block). x.is_run) block.2) }
  where
    block : (b : Block) × (slice_get store.blocks k ≡ Some b) × (b ≡ record (block_of (object_elaborated s.text.layout (Some true) c.object)) { bytes = b.bytes })
    block = object_at (objects_elaborated s.text) store.blocks ready.sound.memory.objects k (object_elaborated s.text.layout (Some true) c.object) c.free

    first_element : (a size : ℕ) → a ≡ a + 0 * size
    first_element a size = omega arith

    whole : IsWholeElement store.blocks t (address_of s.text k)
    whole = record {
      number = k;
      block = block.0;
      there = block.1;
      index = 0;
      below = subst (λ n. 0 < n) (sym (ap (λ (x : Block). x.count) block.2)) c.some;
      address = ap address_in c.there ∙ sym (ap (λ (x : Block). x.base) block.2) ∙ first_element block.0.base block.0.size;
      element = ap (λ (x : Block). x.element) block.2 ∙ c.element;
    }

-- ---- members

pub dot_node : (s : Setting) (store : Store) (here : Here) (e : NotedExpr) (n : Name) (spot : Pos) (t : CType) (c : IsPointerMember s store e.note.ctype t n) → (view s.frame e).ctype ≡ e.note.ctype
    → IsMemberNode s here t (record { tag = c.tag; number = c.number }) (node_view s.frame (Node-F.Dot (view s.frame e) n spot))
dot_node s store here e n spot t c viewed = record {
  alone = refl;
  known = refl;
  nowhere = λ first facts. refl;
  kept = fresh_same s.frame e here.at;
  ranged = λ own first fresh widened. ap (λ o. range_of_member s.frame.structs t o own) member_is;
  needs = ap (member_fresh s.frame.structs t) member_is;
  behind = refl;
  some = refl;
  quiet = λ b. nothing_read b;
}
  where
    member_is : member_in n (out-CType (view s.frame e).ctype) ≡ Some (record { tag = c.tag; number = c.number })
    member_is = ap (λ u. member_in n (out-CType u)) viewed ∙ ap (member_in n) c.struct ∙ ap (λ n. member_in n (CType-F.Struct c.tag)) c.named

    nothing_read : (b : Bool) → (node_view s.frame (Node-F.Dot (view s.frame e) n spot)).side b here.at ≡ here.at
    nothing_read true = refl
    nothing_read false = refl

-- An integer that is read at the place of a structure is as it is judged to be.
pub integer_held : (s : Setting) (store : Store) (entry : List ℕ) (next : ℕ) (ready : IsSoundStore s store next) (here : Here) (h : HoldsAt s store entry here) (u t : CType) (n : Name) → IsIntegerMember s u t n
    → (made : NodeView) → made.behind ≡ None → made.null ≡ false → made.is_zero ≡ false → ((b : Bool) → made.side b here.at ≡ here.at) → (q : Place) → IsStructurePlace store u q
    → IsNotStuck (NodeClaims s store entry here h t made) (evaluated store (read_at s.text.layout t (count_of_member s.text.layout (tag_of u) n) (member_place s.text.layout (tag_of u) n q)))
integer_held s store entry next ready here h u t n c made none known some quiet q place =
    member_reads store s.text.layout u q place (tag_of u) n (NodeClaims s store entry here h t made) t (count_of_member s.text.layout (tag_of u) n)
    (λ a w. subst (λ o. IsNotStuck (NodeClaims s store entry here h t made) (got store s.text.layout t (offset_of s.text.layout (tag_of u) (member_number n)) o a)) (sym c.bare)
    (element_loads s.text store.blocks next ready.sound (NodeClaims s store entry here h t made) u t (offset_of s.text.layout (tag_of u) (member_number n)) (member_there s.text.layout u n t c.number c.named c.there) a w
    (λ m word. quiet_claims s store entry here h t made (no_pointer t c.integer) none known some quiet (record { number = m; range = Without }) word)))
