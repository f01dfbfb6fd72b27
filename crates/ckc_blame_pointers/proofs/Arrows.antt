-- What is said of `p->m`, where a pointer is read.
use Rattle.std.proofs.Common.{◌≡◌, refl, ap, ◌∙◌, Bool, true, false}
use Rattle.std.specs.Prelude.{Some}
use Rattle.ckc_base.specs.declared.places.Pos.{Pos}
use Rattle.ckc_types.specs.declared.types.CType.{CType, CType-F, out-CType}
use Rattle.ckc_syntax.specs.declared.tree.Name.{Name}
use Rattle.ckc_syntax.specs.declared.tree.Node.{Node-F}
use Rattle.ckc_typed.specs.Trees.{NotedExpr}
use Rattle.ckc_typed.specs.Types.{element_of}
use Rattle.ckc_blame_sound.specs.ckc_bounds_views.specs.Fresh.{member_in, member_fresh}
use Rattle.ckc_blame_sound.specs.ckc_bounds_views.specs.Ranges.{range_of_member}
use Rattle.ckc_blame_sound.specs.ckc_bounds_views.specs.Views.{node_view, view}
use Rattle.ckc_blame_sound.specs.ckc_bounds_statements.specs.Paths.{Here}
use Rattle.ckc_source.specs.Eval.{Store}
use Rattle.ckc_blame_sound.specs.Settings.{Setting}
use Rattle.ckc_blame_pointers.specs.Covered.{IsPointerMember}
use Rattle.ckc_blame_pointers.proofs.Held.{IsMemberNode}
use Rattle.ckc_blame_pointers.proofs.Unwidened.{fresh_same}

pub arrow_node : (s : Setting) (store : Store) (here : Here) (e : NotedExpr) (n : Name) (spot : Pos) (t : CType) (c : IsPointerMember s store (element_of e.note.ctype) t n) → (view s.frame e).ctype ≡ e.note.ctype
    → IsMemberNode s here t (record { tag = c.tag; number = c.number }) (node_view s.frame (Node-F.Arrow (view s.frame e) n spot))
arrow_node s store here e n spot t c viewed = record {
  alone = refl;
  known = refl;
  nowhere = λ first facts. refl;
  kept = fresh_same s.frame e here.at;
  ranged = λ own first fresh widened. ap (λ o. range_of_member s.frame.structs t o own) member_is;
  needs = ap (member_fresh s.frame.structs t) member_is;
  behind = refl;
  some = refl;
  quiet = λ b. nothing_read b;
}
  where
    member_is : member_in n (out-CType (element_of (view s.frame e).ctype)) ≡ Some (record { tag = c.tag; number = c.number })
    member_is = ap (λ u. member_in n (out-CType (element_of u))) viewed ∙ ap (member_in n) c.struct ∙ ap (λ n. member_in n (CType-F.Struct c.tag)) c.named

    nothing_read : (b : Bool) → (node_view s.frame (Node-F.Arrow (view s.frame e) n spot)).side b here.at ≡ here.at
    nothing_read true = refl
    nothing_read false = refl
