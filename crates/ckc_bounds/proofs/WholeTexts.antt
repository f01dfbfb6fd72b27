-- The judgement of a text, by the frame that the code makes.
use Rattle.std.proofs.Common.{◌≡◌, ◌∙◌, List, sym, ap}
use Rattle.std.specs.Prelude.{Ok}
use Rattle.ckc_base.specs.Outcomes.{Outcome, bind}
use Rattle.ckc_types.specs.declared.types.Structs.{Structs}
use Rattle.ckc_typed.specs.declared.typed.StaticObject.{StaticObject}
use Rattle.ckc_typed.specs.declared.typed.Typed.{Typed}
use Rattle.ckc_typed.specs.Trees.{NotedItem}
use Rattle.ckc_bounds_points.specs.declared.frame.Frame.{Frame}
use Rattle.ckc_bounds.specs.code.Declarations.{text_of}
use Rattle.ckc_bounds.specs.Frames.{text_frame}
use Rattle.ckc_bounds.specs.Texts.{items_judged, text_judged}

abbrev pub with_parts : Typed → List NotedItem → Structs → List StaticObject → Typed
with_parts p items layout statics = record { tree = record { items = items }; layout = layout; statics = statics; main = p.main }

module _ (p : Typed) (frame new : Frame) (is js made : List NotedItem) (e : frame ≡ text_frame p.layout p.statics is) (i : is ≡ p.tree.items) (j : js ≡ p.tree.items) (judged : items_judged (text_of frame) js ≡ Ok made) (kept : text_of new ≡ text_of frame) where
  abbrev remade : List NotedItem → Outcome Typed
  remade items = Ok (with_parts p items p.layout p.statics)

  all_judged : items_judged (text_frame p.layout p.statics p.tree.items) p.tree.items ≡ Ok made
  all_judged =
      ap (λ (xs : List NotedItem). items_judged (text_frame p.layout p.statics xs) p.tree.items) (sym i)
      ∙ ap (λ (xs : List NotedItem). items_judged (text_frame p.layout p.statics is) xs) (sym j)
      ∙ ap (λ (f : Frame). items_judged (text_of f) js) (sym e)
      ∙ judged

  layout_kept : new.structs ≡ p.layout
  layout_kept = ap (λ (f : Frame). f.structs) kept ∙ ap (λ (f : Frame). f.structs) e

  statics_kept : new.statics ≡ p.statics
  statics_kept = ap (λ (f : Frame). f.statics) kept ∙ ap (λ (f : Frame). f.statics) e

  pub text_done : (layout : Structs) (statics : List StaticObject) → layout ≡ new.structs → statics ≡ new.statics → text_judged p ≡ Ok (with_parts p made layout statics)
  text_done layout statics l s =
      ap (λ (o : Outcome (List NotedItem)). bind o remade) all_judged
      ∙ ap (λ (x : Structs). Ok (with_parts p made x p.statics)) (sym (l ∙ layout_kept))
      ∙ ap (λ (x : List StaticObject). Ok (with_parts p made layout x)) (sym (s ∙ statics_kept))
