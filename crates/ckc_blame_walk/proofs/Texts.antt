-- A judged text has the frame of the text before it was judged, and its functions come from there.
use Rattle.std.proofs.Common.{◌≡◌, ⊎_elim, refl, sym, ap, subst, ◌∙◌, List, [], ◌∷◌, arith}
use Rattle.std.specs.Prelude.{Option, None, Some, Ok}
use Rattle.std.specs.List.{Contains}
use Rattle.std.proofs.lemmas.List.Elements.{All-nil, All-cons, All-contains, Contains-append_cases}
use Rattle.ckc_base.proofs.Outcomes.{made_of}
use Rattle.ckc_syntax.specs.declared.tree.Item.TheVariants as item
use Rattle.ckc_typed.specs.declared.typed.Typed.{Typed}
use Rattle.ckc_typed.specs.Trees.{NotedDecl, NotedHead, NotedInit, NotedItem, NotedLimits, NotedStmt}
use Rattle.ckc_blame_sound.specs.ckc_bounds_points.specs.declared.frame.Frame.{Frame}
use Rattle.ckc_blame_sound.specs.ckc_bounds_points.specs.declared.frame.Bounds.{Bounds}
use Rattle.ckc_blame_sound.specs.ckc_bounds_points.specs.declared.frame.HeadBounds.{HeadBounds}
use Rattle.ckc_blame_sound.specs.ckc_bounds_statements.specs.DeclBounds.{bounds_there}
use Rattle.ckc_blame_sound.specs.ckc_bounds_statements.specs.Paths.{init_judged}
use Rattle.ckc_blame_sound.specs.ckc_bounds.specs.Declarations.{head_judged, member_holder, params_frame, heads_from, with_item, object_bounds_in, objects_of, with_object}
use Rattle.ckc_blame_sound.specs.ckc_bounds.specs.Frames.{structs_frame, text_frame}
use Rattle.ckc_blame_sound.specs.ckc_bounds.specs.Texts.{outside, members_judged, body_judged, item_judged, items_judged}
use Rattle.ckc_blame_sound.specs.ckc_bounds.specs.Phase.{bounding}
use Rattle.ckc_blame_sound.specs.Settings.{frame_of_text}
use Rattle.ckc_blame_walk.proofs.Pieces.{Gives, through, nested, given}
use Rattle.ckc_blame_walk.proofs.Flow.{first_in, later_in}

-- what a function was before it was judged
pub record Before (frame : Frame) (items : List NotedItem) (h : NotedHead) (body : NotedStmt) : Type 0 where
  pub before : NotedStmt
  pub there : Contains items (item.Function h before)
  pub judged : body_judged frame h before ≡ Ok body

-- a judged item makes the same known, and a function was one before
record SameItem (frame : Frame) (i j : NotedItem) : Type 0 where
  pub object : (inside : Frame) (rest : List (Option Bounds)) → with_object inside j rest ≡ with_object inside i rest
  pub head : (inside : Frame) (heads : List HeadBounds) → with_item inside heads j ≡ with_item inside heads i
  pub function : (h : NotedHead) (body : NotedStmt) → j ≡ item.Function h body → (before : NotedStmt) × (i ≡ item.Function h before) × (body_judged frame h before ≡ Ok body)

object_same : (inside : Frame) (d : NotedDecl) (i : NotedInit) (o : Option NotedLimits) → object_bounds_in inside (record d { init = i }) o ≡ object_bounds_in inside d o
object_same inside d i None = refl
object_same inside d i (Some l) = refl

item_same : (frame : Frame) (i : NotedItem) → Gives (SameItem frame i) (item_judged frame i)
item_same frame (item.Directive d) = given (SameItem frame (item.Directive d)) _ (record { object = λ inside rest. refl; head = λ inside heads. refl; function = λ h body e. absurd (cc) })
item_same frame (item.Tag n at) = given (SameItem frame (item.Tag n at)) _ (record { object = λ inside rest. refl; head = λ inside heads. refl; function = λ h body e. absurd (cc) })
item_same frame (item.Struct n ms at) =
    through (SameItem frame (item.Struct n ms at)) (members_judged frame (member_holder n) ms) _ (λ u is.
    given (SameItem frame (item.Struct n ms at)) _ (record { object = λ inside rest. refl; head = λ inside heads. refl; function = λ h body e. absurd (cc) }))
item_same frame (item.Static d) =
    nested (SameItem frame (item.Static d)) (bounds_there frame d) _ _ (λ b b_is.
    nested (SameItem frame (item.Static d)) (init_judged frame d.init (outside frame)) _ _ (λ p p_is.
    given (SameItem frame (item.Static d)) (item.Static (record d { init = p.0 })) (record {
      object = λ inside rest. ap (λ o. o ∷ rest) (object_same inside d p.0 d.bounds);
      head = λ inside heads. refl;
      function = λ h body e. absurd (cc);
    })))
item_same frame (item.Proto h) =
    nested (SameItem frame (item.Proto h)) (head_judged (params_frame frame h) h) _ _ (λ b is.
    given (SameItem frame (item.Proto h)) (item.Proto h) (record { object = λ inside rest. refl; head = λ inside heads. refl; function = λ h body e. absurd (cc) }))
item_same frame (item.Function h body) =
    nested (SameItem frame (item.Function h body)) (head_judged (params_frame frame h) h) _ _ (λ b is.
    through (SameItem frame (item.Function h body)) (body_judged frame h body) _ (λ after judged.
    given (SameItem frame (item.Function h body)) (item.Function h after) (record {
      object = λ inside rest. refl;
      head = λ inside heads. refl;
      function = λ g body' e. (body, ap (λ g. item.Function g body) (heads_are h g after body' e), ap (λ g. body_judged frame g body) (sym (heads_are h g after body' e)) ∙ judged ∙ ap Ok (bodies_are h g after body' e));
    })))
  where
    heads_are : (h g : NotedHead) (a b : NotedStmt) → ◌≡◌ {A = NotedItem} (item.Function h a) (item.Function g b) → h ≡ g
    heads_are h g a b e = cc

    bodies_are : (h g : NotedHead) (a b : NotedStmt) → ◌≡◌ {A = NotedItem} (item.Function h a) (item.Function g b) → a ≡ b
    bodies_are h g a b e = cc

record SameItems (frame : Frame) (items after : List NotedItem) : Type 0 where
  pub objects : (inside : Frame) → objects_of inside after ≡ objects_of inside items
  pub heads : (inside : Frame) (heads : List HeadBounds) → heads_from inside heads after ≡ heads_from inside heads items
  pub function : (h : NotedHead) (body : NotedStmt) → Contains after (item.Function h body) → Before frame items h body

head_of : (x y : NotedItem) → Contains (x ∷ []) y → x ≡ y
head_of x y c = All-contains (λ z. x ≡ z) (x ∷ []) y (All-cons (λ z. x ≡ z) x [] refl (All-nil (λ z. x ≡ z))) c

items_same : (frame : Frame) (items : List NotedItem) → Gives (SameItems frame items) (items_judged frame items)
items_same frame [] = given (SameItems frame []) [] (record { objects = λ inside. refl; heads = λ inside heads. refl; function = λ h body c. absurd (omega (arith, c.1)) })
items_same frame (i ∷ items) =
    through (SameItems frame (i ∷ items)) (item_judged frame i) _ (λ j j_is.
    through (SameItems frame (i ∷ items)) (items_judged frame items) _ (λ js js_is.
    let one : SameItem frame i j = (item_same frame i).made j j_is in
    let rest : SameItems frame items js = (items_same frame items).made js js_is in
    given (SameItems frame (i ∷ items)) (j ∷ js) (record {
      objects = λ inside. one.object inside (objects_of inside js) ∙ ap (with_object inside i) (rest.objects inside);
      heads = λ inside heads. rest.heads inside (with_item inside heads j) ∙ ap (λ hs. heads_from inside hs items) (one.head inside heads);
      function = λ h body c. ⊎_elim
          (λ d. let f = one.function h body (head_of j (item.Function h body) d) in
          record { before = f.0; there = subst (λ x. Contains (x ∷ items) (item.Function h f.0)) (sym f.1) (first_in (item.Function h f.0) items); judged = f.2 })
          (λ d. let f = rest.function h body d in
          record { before = f.before; there = later_in i items (item.Function h f.before) f.there; judged = f.judged })
          (Contains-append_cases (j ∷ []) js (item.Function h body) c);
    })))

pub record SameText (q p : Typed) : Type 0 where
  pub frame : frame_of_text p ≡ frame_of_text q
  pub layout : p.layout ≡ q.layout
  pub function : (h : NotedHead) (body : NotedStmt) → Contains p.tree.items (item.Function h body) → Before (frame_of_text p) q.tree.items h body

pub text_same : (q p : Typed) → bounding.Makes q p → SameText q p
text_same q p makes =
    let m = made_of (items_judged (frame_of_text q) q.tree.items) (λ items. Ok (record q { tree = record { items = items } })) p makes in
    let same : record q { tree = record { items = m.0 } } ≡ p = cc in
    let all : SameItems (frame_of_text q) q.tree.items m.0 = (items_same (frame_of_text q) q.tree.items).made m.0 m.1 in
    let frames : text_frame q.layout q.statics m.0 ≡ frame_of_text q =
    ap (λ o. record (structs_frame q.layout q.statics) { objects = o; heads = heads_from (structs_frame q.layout q.statics) [] m.0 }) (all.objects (structs_frame q.layout q.statics))
    ∙ ap (λ h. record (structs_frame q.layout q.statics) { objects = objects_of (structs_frame q.layout q.statics) q.tree.items; heads = h }) (all.heads (structs_frame q.layout q.statics) []) in
    subst (SameText q) same (record {
      frame = frames;
      layout = refl;
      function = λ h body c. subst (λ f. Before f q.tree.items h body) (sym frames) (all.function h body c);
    })
