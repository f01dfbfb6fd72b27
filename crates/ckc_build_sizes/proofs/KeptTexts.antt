-- The bounds phase keeps the marks of a text.
use Rattle.std.proofs.Common.{◌≡◌, ap, subst, refl, List, [], ◌∷◌}
use Rattle.std.specs.List.{flat_map}
use Rattle.ckc_base.specs.Outcomes.{Outcome}
use Rattle.ckc_syntax.specs.declared.tree.Item.TheVariants as item
use Rattle.ckc_syntax_limits.specs.Marks.{function, static, marks_of_init, marks_of_decl, marks_of_stmt, marks_of_head, marks_of_item, marks_of}
use Rattle.ckc_typed.specs.declared.typed.Typed.{Typed}
use Rattle.ckc_typed.specs.Trees.{NotedDecl, NotedHead, NotedItem, NotedStmt}
use Rattle.ckc_bounds.specs.ckc_bounds_points.specs.declared.frame.Frame.{Frame}
use Rattle.ckc_bounds.specs.ckc_bounds_statements.specs.DeclBounds.{bounds_there}
use Rattle.ckc_bounds.specs.Declarations.{member_holder, params_frame, head_judged, head_bounds}
use Rattle.ckc_bounds.specs.Frames.{text_frame, function_frame, begin_of}
use Rattle.ckc_bounds.specs.Texts.{outside, members_judged, object_judged, body_judged, head_kept, item_judged, items_judged, text_judged}
use Rattle.ckc_bounds.specs.Phase.{bounding}
use Rattle.ckc_build_sizes.proofs.KeptExprs.{Keeps, bound, both}
use Rattle.ckc_build_sizes.proofs.KeptStmts.{init_first, stmt_first, none, any, init_kept, decl_kept, stmt_kept}

object_kept : (frame : Frame) (d : NotedDecl) → Keeps marks_of_decl (marks_of_decl d) (object_judged frame d)
object_kept frame d =
    bound none [] _ _ _ _ (any (bounds_there frame d)) (λ b z. bound init_first (marks_of_init d.init) _ _ _ _ (init_kept frame d.init (outside frame)) (λ p h. decl_kept d p.0 h))

body_kept : (frame : Frame) (h : NotedHead) (body : NotedStmt) → Keeps marks_of_stmt (marks_of_stmt body) (body_judged frame h body)
body_kept frame h body =
    bound stmt_first (marks_of_stmt body) _ _ _ _ ((stmt_kept (function_frame frame h body) body).judged (head_bounds frame h) (begin_of frame h body)) (λ p g. g)

head_stays : (frame : Frame) (h : NotedHead) → Keeps marks_of_head (marks_of_head h) (head_kept frame h)
head_stays frame h = bound none [] _ _ _ _ (any (head_judged (params_frame frame h) h)) (λ b z. refl)

item_kept : (frame : Frame) (i : NotedItem) → Keeps marks_of_item (marks_of_item i) (item_judged frame i)
item_kept frame (item.Directive d) = refl
item_kept frame (item.Tag n at) = refl
item_kept frame (item.Struct n ms at) = bound none [] _ _ _ _ (any (members_judged frame (member_holder n) ms)) (λ u z. refl)
item_kept frame (item.Static d) = bound marks_of_decl (marks_of_decl d) _ _ _ _ (object_kept frame d) (λ e h. ap (λ ms. static ∷ ms) h)
item_kept frame (item.Proto h) = bound marks_of_head (marks_of_head h) _ _ _ _ (head_stays frame h) (λ g k. k)
item_kept frame (item.Function h body) =
    bound marks_of_head (marks_of_head h) _ _ _ _ (head_stays frame h) (λ g k. bound marks_of_stmt (marks_of_stmt body) _ _ _ _ (body_kept frame h body) (λ s j.
    ap (λ ms. function ∷ ms) (both k j)))

items_kept : (frame : Frame) (is : List NotedItem) → Keeps (flat_map marks_of_item) (flat_map marks_of_item is) (items_judged frame is)
items_kept frame [] = refl
items_kept frame (i ∷ is) =
    bound marks_of_item (marks_of_item i) _ _ _ _ (item_kept frame i) (λ j h. bound (flat_map marks_of_item) (flat_map marks_of_item is) _ _ _ _ (items_kept frame is) (λ js g. both h g))

text_kept : (p : Typed) → Keeps (λ (q : Typed). marks_of q.tree) (marks_of p.tree) (text_judged p)
text_kept p =
    bound (flat_map marks_of_item) (flat_map marks_of_item p.tree.items) _ _ _ _ (items_kept (text_frame p.layout p.statics p.tree.items) p.tree.items) (λ items h. h)

pub marks_kept : (p q : Typed) → bounding.Makes p q → marks_of q.tree ≡ marks_of p.tree
marks_kept p q e = let P : Outcome Typed → Type 0 = λ o. Keeps (λ (r : Typed). marks_of r.tree) (marks_of p.tree) o in subst P e (text_kept p)
