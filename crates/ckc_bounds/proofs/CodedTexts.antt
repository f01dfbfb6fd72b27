-- Which codes the refusals of the bounds phase have: of items and of whole texts.
use Rattle.std.proofs.Common.{ℕ, List, [], ◌∷◌, map}
use Rattle.std.specs.Prelude.{Option, None, Some}
use Rattle.ckc_base.proofs.Codes
use Rattle.ckc_base.specs.declared.places.Refusal.{Refusal}
use Rattle.ckc_base.specs.declared.arithmetic.Mode.TheVariants.{Checked}
use Rattle.ckc_base.specs.Outcomes.{Outcome}
use Rattle.ckc_syntax.specs.declared.tree.Name.{Name}
use Rattle.ckc_syntax.specs.declared.tree.Limits.{out-Limits}
use Rattle.ckc_syntax.specs.declared.tree.Item.TheVariants as item
use Rattle.ckc_syntax.specs.declared.tree.Length.TheVariants as lengths
use Rattle.ckc_bounds_declared.specs.declared.limits.Holder.TheVariants as holder
use Rattle.ckc_typed.specs.Interfaces.{is_interface, seen}
use Rattle.ckc_typed.specs.Types.{type_written}
use Rattle.ckc_typed.specs.declared.typed.Note.{Note}
use Rattle.ckc_typed.specs.declared.typed.Typed.{Typed}
use Rattle.ckc_typed.specs.Trees.{NotedDecl, NotedExpr, NotedHead, NotedItem, NotedLimits, NotedStmt}
use Rattle.ckc_bounds_declared.specs.Written.{place_of_limits}
use Rattle.ckc_bounds_points.specs.Codes.{bad_limits}
use Rattle.ckc_bounds_points.specs.declared.frame.HeadBounds.{HeadBounds}
use Rattle.ckc_bounds_points.specs.declared.frame.Frame.{Frame}
use Rattle.ckc_bounds_statements.specs.DeclBounds.{decl_bounds, bounds_there}
use Rattle.ckc_bounds.specs.Declarations.{each, are_unknown_form, interface_bounds, param_bounds, head_judged, member_holder, params_frame, head_bounds}
use Rattle.ckc_bounds_statements.specs.Paths.{Here, value_judged, behind_stores}
use Rattle.ckc_bounds.specs.Frames.{text_frame, function_frame, begin_of}
use Rattle.ckc_bounds.specs.Texts.{outside, object_judged, body_judged, item_judged, text_judged}
use Rattle.ckc_bounds.specs.Phase.{bounding}
use Rattle.ckc_bounds_statements.specs.Codes.{IsBoundsCode}
use Rattle.ckc_bounds_statements.proofs.Coded.{HasCode, is_603, declared_coded, decl_coded, there_bounds_coded, init_coded, stmt_coded}

each_coded : {X A : Type 0} (f : X → Outcome A) → ((x : X) → HasCode (f x)) → (xs : List X) → HasCode (each (map f xs))
each_coded f h [] = tt
each_coded f h (x ∷ xs) = Codes.bound IsBoundsCode (f x) _ (h x) (λ a. each_coded f h xs)

interface_coded : (frame : Frame) (d : NotedDecl) (l : Option NotedLimits) → HasCode (interface_bounds frame d l)
interface_coded frame d None = there_bounds_coded frame d
interface_coded frame d (Some l) = Codes.kept IsBoundsCode (are_unknown_form (out-Limits Name Note l)) bad_limits (place_of_limits l) (bounds_there frame d) is_603 (there_bounds_coded frame d)

param_coded : (frame : Frame) (d : NotedDecl) → HasCode (param_bounds frame d)
param_coded frame d = Codes.chosen IsBoundsCode (is_interface d) (interface_bounds frame (seen Checked d) d.bounds) (bounds_there frame d) (interface_coded frame (seen Checked d) d.bounds) (there_bounds_coded frame d)

head_coded : (frame : Frame) (h : NotedHead) → HasCode (head_judged frame h)
head_coded frame h = Codes.bound IsBoundsCode _ _ (each_coded (param_bounds frame) (param_coded frame) h.params) (λ u. declared_coded frame holder.Result (type_written h.result) lengths.Plain h.bounds)

module _ (value_coded : (frame : Frame) (e : NotedExpr) (h : Here) → HasCode (value_judged frame e h)) (stores_coded : (frame : Frame) (head : HeadBounds) (ss : List NotedStmt) (first : ℕ) (h : Here) → HasCode (behind_stores frame head ss first h)) where
  object_coded : (frame : Frame) (d : NotedDecl) → HasCode (object_judged frame d)
  object_coded frame d =
      Codes.bound IsBoundsCode _ _ (there_bounds_coded frame d) (λ b. Codes.bound IsBoundsCode _ _ (init_coded value_coded stores_coded frame d.init (outside frame)) (λ p. tt))

  body_coded : (frame : Frame) (h : NotedHead) (body : NotedStmt) → HasCode (body_judged frame h body)
  body_coded frame h body =
      let coded = stmt_coded value_coded stores_coded body in
      Codes.bound IsBoundsCode _ _ (coded.judged (function_frame frame h body) (head_bounds frame h) (begin_of frame h body)) (λ p. tt)

  item_coded : (frame : Frame) (i : NotedItem) → HasCode (item_judged frame i)
  item_coded frame (item.Directive d) = tt
  item_coded frame (item.Tag n at) = tt
  item_coded frame (item.Struct n ms at) = Codes.bound IsBoundsCode _ _ (each_coded (decl_bounds frame (member_holder n)) (decl_coded frame (member_holder n)) ms) (λ u. tt)
  item_coded frame (item.Static d) = Codes.bound IsBoundsCode _ _ (object_coded frame d) (λ e. tt)
  item_coded frame (item.Proto h) = Codes.bound IsBoundsCode _ _ (Codes.bound IsBoundsCode _ _ (head_coded (params_frame frame h) h) (λ b. tt)) (λ g. tt)
  item_coded frame (item.Function h body) = Codes.bound IsBoundsCode _ _ (Codes.bound IsBoundsCode _ _ (head_coded (params_frame frame h) h) (λ b. tt)) (λ g. Codes.bound IsBoundsCode _ _ (body_coded frame h body) (λ s. tt))

  text_coded : (p : Typed) → HasCode (text_judged p)
  text_coded p =
      let frame = text_frame p.layout p.statics p.tree.items in
      Codes.bound IsBoundsCode _ _ (Codes.listed IsBoundsCode (item_judged frame) (item_coded frame) p.tree.items) (λ items. tt)

  pub codes_by : (p : Typed) (r : Refusal) → bounding.Refuses p r → IsBoundsCode r.code
  codes_by p r refuses = Codes.code_of IsBoundsCode (text_judged p) r (text_coded p) refuses
