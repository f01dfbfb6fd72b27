-- A whole text with its bounds judged: what it becomes, and its first error. Items are judged in the order of the text.
use Rattle.std.specs.Prelude.{false, List, [], map, Ok}
use Rattle.ckc_base.specs.Outcomes.{Outcome, bind, in_order}
use Rattle.ckc_syntax.specs.declared.tree.Item.TheVariants as item
use Rattle.ckc_typed.specs.declared.typed.Typed.{Typed}
use Rattle.ckc_typed.specs.Trees.{NotedDecl, NotedHead, NotedStmt, NotedItem}
use Rattle.ckc_bounds_points.specs.declared.frame.Frame.{Frame}
use Rattle.ckc_bounds_points.specs.Flow.{entry}
use Rattle.ckc_bounds_declared.specs.declared.limits.Holder.{Holder}
use Rattle.ckc_bounds_statements.specs.DeclBounds.{decl_bounds, bounds_there}
use Rattle.ckc_bounds.specs.Declarations.{each, head_judged, member_holder, params_frame, head_bounds}
use Rattle.ckc_bounds_statements.specs.Paths.{Here, init_judged, path}
use Rattle.ckc_bounds.specs.Frames.{text_frame, function_frame, begin_of}

-- E603 of members
abbrev pub members_judged : Frame → Holder → List NotedDecl → Outcome (Unit {0})
members_judged frame h ds = each (map (decl_bounds frame h) ds)

-- An initialiser of an object is judged as at the begin of a function without locals.
abbrev pub outside : Frame → Here
outside frame = record { seen = []; at = entry frame; next = 0; counting = false }

-- an object of file scope: E603, then its initialiser
abbrev pub object_judged : Frame → NotedDecl → Outcome NotedDecl
object_judged frame d =
    bind (bounds_there frame d) (λ b. bind (init_judged frame d.init (outside frame)) (λ p. Ok (record d { init = p.0 })))

-- the body of a function with the ranges of its pointers noted, or its first error
abbrev pub body_judged : Frame → NotedHead → NotedStmt → Outcome NotedStmt
body_judged frame h body =
    bind ((path body).judged (function_frame frame h body) (head_bounds frame h) (begin_of frame h body)) (λ p. Ok p.0)

-- a head, if its bounds have such forms
abbrev pub head_kept : Frame → NotedHead → Outcome NotedHead
head_kept frame h = bind (head_judged (params_frame frame h) h) (λ b. Ok h)

-- a function, its head judged before its body, or its first error
abbrev pub function_judged : Frame → NotedHead → NotedStmt → Outcome NotedItem
function_judged frame h body =
    bind (head_kept frame h) (λ g. bind (body_judged frame h body) (λ s. Ok (item.Function g s)))

-- an item, in the frame of the text
abbrev pub item_judged : Frame → NotedItem → Outcome NotedItem
item_judged frame (item.Directive d) = Ok (item.Directive d)
item_judged frame (item.Tag n at) = Ok (item.Tag n at)
item_judged frame (item.Struct n ms at) = bind (members_judged frame (member_holder n) ms) (λ u. Ok (item.Struct n ms at))
item_judged frame (item.Static d) = bind (object_judged frame d) (λ e. Ok (item.Static e))
item_judged frame (item.Proto h) = bind (head_kept frame h) (λ g. Ok (item.Proto g))
item_judged frame (item.Function h body) = function_judged frame h body

-- the same of each item of a source file, in order
abbrev pub items_judged : Frame → List NotedItem → Outcome (List NotedItem)
items_judged frame items = in_order (map (item_judged frame) items)

-- the text with the ranges of its pointers
abbrev pub text_judged : Typed → Outcome Typed
text_judged p = bind (items_judged (text_frame p.layout p.statics p.tree.items) p.tree.items) (λ items. Ok (record p { tree = record { items = items } }))
