-- In checked scopes the expressions of a scoped text are safe, whatever text it was judged as.
use Rattle.std.proofs.Common.{◌≡◌, ◌∙◌, ⊎_elim, refl, sym, ap, subst, List, [], ◌∷◌, arith}
use Rattle.std.specs.Prelude.{Ok}
use Rattle.std.specs.List.{Contains}
use Rattle.std.proofs.lemmas.List.Elements.{All-nil, All-cons, All-contains, Contains-append_cases}
use Rattle.ckc_base.specs.declared.arithmetic.Mode.{Mode}
use Rattle.ckc_base.specs.declared.arithmetic.Mode.TheVariants.{Unchecked}
use Rattle.ckc_base.specs.Outcomes.{Outcome}
use Rattle.ckc_syntax.specs.declared.tree.Item.TheVariants as item
use Rattle.ckc_typed.specs.declared.typed.Typed.{Typed}
use Rattle.ckc_typed.specs.Scoped.{Scoped}
use Rattle.ckc_typed.specs.Trees.{NotedHead, NotedItem, NotedStmt}
use Rattle.ckc_typed.specs.Walk.{spots_of_stmt, spots_of_head, spots_of_item, spots_of_items, pragma_after}
use Rattle.ckc_blame_sound.specs.ckc_bounds_points.specs.declared.frame.Frame.{Frame}
use Rattle.ckc_blame_sound.specs.ckc_bounds.specs.Declarations.{params_frame, head_judged}
use Rattle.ckc_blame_sound.specs.ckc_bounds.specs.Texts.{body_judged, item_judged, items_judged}
use Rattle.ckc_blame_sound.specs.ckc_bounds.specs.Phase.{bounding}
use Rattle.ckc_blame_sound.specs.Settings.{frame_of_text}
use Rattle.ckc_blame_sound.specs.Safe.{AreSafe}
use Rattle.ckc_blame_sound.proofs.Bounded.{is_bounded}
use Rattle.ckc_blame_sound.proofs.KeptTrees.{Keeps}
use Rattle.ckc_blame_walk.proofs.Flow.{first_in, later_in}
use Rattle.ckc_blame_walk.proofs.Pieces.{Gives, through, nested, given}
use Rattle.ckc_blame_walk.proofs.Texts.{Before, text_same}
use Rattle.ckc_blame_steps.proofs.Fine.{Fine, IsFineSpot, left_of, right_of, stmt_safe}
use Rattle.ckc_blame_steps.proofs.Spots.{body_kept}

head_of : (x y : NotedItem) → Contains (x ∷ []) y → x ≡ y
head_of x y c = All-contains (λ z. x ≡ z) (x ∷ []) y (All-cons (λ z. x ≡ z) x [] refl (All-nil (λ z. x ≡ z))) c

-- ---- what a function becomes

record After (frame : Frame) (items : List NotedItem) (h : NotedHead) (body : NotedStmt) : Type 0 where
  pub after : NotedStmt
  pub there : Contains items (item.Function h after)
  pub judged : body_judged frame h body ≡ Ok after

record Forth (frame : Frame) (items after : List NotedItem) : Type 0 where
  pub function : (h : NotedHead) (body : NotedStmt) → Contains items (item.Function h body) → After frame after h body

-- what an item becomes, if it is a function
record ItemForth (frame : Frame) (i j : NotedItem) : Type 0 where
  pub function : (h : NotedHead) (body : NotedStmt) → i ≡ item.Function h body → (after : NotedStmt) × (j ≡ item.Function h after) × (body_judged frame h body ≡ Ok after)

heads_are : (h g : NotedHead) (a b : NotedStmt) → ◌≡◌ {A = NotedItem} (item.Function h a) (item.Function g b) → h ≡ g
heads_are h g a b e = cc

bodies_are : (h g : NotedHead) (a b : NotedStmt) → ◌≡◌ {A = NotedItem} (item.Function h a) (item.Function g b) → a ≡ b
bodies_are h g a b e = cc

item_forth : (frame : Frame) (i : NotedItem) → Gives (ItemForth frame i) (item_judged frame i)
item_forth frame (item.Directive d) = record { made = λ j e. record { function = λ h body is. absurd (cc) } }
item_forth frame (item.Tag n at) = record { made = λ j e. record { function = λ h body is. absurd (cc) } }
item_forth frame (item.Struct n ms at) = record { made = λ j e. record { function = λ h body is. absurd (cc) } }
item_forth frame (item.Static d) = record { made = λ j e. record { function = λ h body is. absurd (cc) } }
item_forth frame (item.Proto h) = record { made = λ j e. record { function = λ g body is. absurd (cc) } }
item_forth frame (item.Function h body) =
    nested (ItemForth frame (item.Function h body)) (head_judged (params_frame frame h) h) _ _ (λ b is.
    through (ItemForth frame (item.Function h body)) (body_judged frame h body) _ (λ after judged.
    given (ItemForth frame (item.Function h body)) (item.Function h after) (record {
      function = λ g start e. (
        after,
        ap (λ (x : NotedHead). item.Function x after) (heads_are h g body start e),
        sym (ap (λ (x : NotedHead). body_judged frame x start) (heads_are h g body start e)) ∙ sym (ap (λ (x : NotedStmt). body_judged frame h x) (bodies_are h g body start e)) ∙ judged,
      );
    })))

items_forth : (frame : Frame) (items : List NotedItem) → Gives (Forth frame items) (items_judged frame items)
items_forth frame [] = given (Forth frame []) [] (record { function = λ h body c. absurd (omega (arith, c.1)) })
items_forth frame (i ∷ items) =
    through (Forth frame (i ∷ items)) (item_judged frame i) _ (λ j j_is.
    through (Forth frame (i ∷ items)) (items_judged frame items) _ (λ js js_is.
    let one : ItemForth frame i j = (item_forth frame i).made j j_is in
    let rest : Forth frame items js = (items_forth frame items).made js js_is in
    given (Forth frame (i ∷ items)) (j ∷ js) (record {
      function = λ h body c. ⊎_elim
          (λ d. let f = one.function h body (head_of i (item.Function h body) d) in
          record { after = f.0; there = subst (λ x. Contains (x ∷ js) (item.Function h f.0)) (sym f.1) (first_in (item.Function h f.0) js); judged = f.2 })
          (λ d. let f = rest.function h body d in record { after = f.after; there = later_in j js (item.Function h f.after) f.there; judged = f.judged })
          (Contains-append_cases (i ∷ []) items (item.Function h body) c);
    })))

-- ---- what is judged in it stays

spots_same : (frame : Frame) (h : NotedHead) (before after : NotedStmt) → body_judged frame h before ≡ Ok after → spots_of_stmt after ≡ spots_of_stmt before
spots_same frame h before after judged =
    let P : Outcome NotedStmt → Type 0 = λ o. Keeps spots_of_stmt (spots_of_stmt before) o in
    subst P judged (body_kept frame h before)

-- nothing in a function of a scoped text is at fault
body_fine : (all : List NotedItem) (mode : Mode) (items : List NotedItem) (h : NotedHead) (body : NotedStmt) → Fine all (spots_of_items mode items)
    → Contains items (item.Function h body) → Fine all (spots_of_stmt body)
body_fine all mode [] h body fine c = absurd (omega (arith, c.1))
body_fine all mode (i ∷ items) h body fine c =
    ⊎_elim
    (λ d. right_of (IsFineSpot all) (spots_of_head mode h) (spots_of_stmt body)
    (subst (λ x. Fine all (spots_of_item mode x)) (head_of i (item.Function h body) d) (left_of (IsFineSpot all) (spots_of_item mode i) (spots_of_items (pragma_after mode i) items) fine)))
    (λ d. body_fine all (pragma_after mode i) items h body (right_of (IsFineSpot all) (spots_of_item mode i) (spots_of_items (pragma_after mode i) items) fine) d)
    (Contains-append_cases (i ∷ []) items (item.Function h body) c)

pub texts_are_safe : (q p : Typed) → Scoped q → bounding.Makes q p → AreSafe p
texts_are_safe q p scoped makes other h body made there =
    let a : After (frame_of_text other) p.tree.items h body = ((items_forth (frame_of_text other) other.tree.items).made p.tree.items (is_bounded other p made).items).function h body there in
    let b : Before (frame_of_text p) q.tree.items h a.after = (text_same q p makes).function h a.after a.there in
    let same : spots_of_stmt b.before ≡ spots_of_stmt body =
    sym (spots_same (frame_of_text p) h b.before a.after b.judged) ∙ spots_same (frame_of_text other) h body a.after a.judged in
    stmt_safe q.tree.items body (subst (Fine q.tree.items) same (body_fine q.tree.items Unchecked q.tree.items h b.before scoped b.there))
