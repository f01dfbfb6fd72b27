-- Loops that judge the arguments of a call in turn.
use Rattle.std.proofs.Common.{◌≡◌, ◌∙◌, ◌<◌, ℕ, suc, ◌+◌, Bool, true, if◌then◌else◌, List, ◌∷◌, length, map, drop, get_or, drop-cons, add-one, sym, ap}
use Rattle.std.specs.Prelude.{Option, Some, ◌||◌, slice_get}
use Rattle.ckc_base.specs.declared.places.Refusal.{Refusal}
use Rattle.ckc_typed.specs.Trees.{NotedExpr}
use Rattle.ckc_bounds_extents.specs.ckc_bounds_points.specs.declared.frame.Frame.{Frame}
use Rattle.ckc_bounds_extents.specs.ckc_bounds_points.specs.declared.frame.HeadBounds.{HeadBounds}
use Rattle.ckc_bounds_extents.specs.ckc_bounds_points.specs.Codes.{not_contained}
use Rattle.ckc_bounds_extents.specs.ckc_bounds_points.specs.Flow.{State}
use Rattle.ckc_bounds_extents.specs.ckc_bounds_views.specs.Arguments.{bases_by, variables_by}
use Rattle.ckc_bounds_extents.specs.ckc_bounds_views.specs.Judged.{is_owed, is_argument, arguments_fault}
use Rattle.ckc_bounds_extents.specs.ckc_bounds_views.specs.Parts.{View, capped, fresh_behind}
use Rattle.ckc_bounds_extents.specs.ckc_bounds_views.specs.Views.{view}

module _ (frame : Frame) (h : HeadBounds) (es : List NotedExpr) (at : State) where
  abbrev left : List NotedExpr → ℕ → ℕ → ℕ → Option Refusal
  left rest n first fresh =
      arguments_fault (λ facts. bases_by h.params 0 0 facts (map (view frame) es)) (λ facts. variables_by h.params 0 facts (map (view frame) es)) h n (map (view frame) rest) first fresh at

  abbrev passes : View → ℕ → ℕ → ℕ → Bool
  passes e n first fresh =
      is_owed (slice_get h.interfaces n) e
      || is_argument (slice_get h.params n) e first fresh at (λ facts. bases_by h.params 0 0 facts (map (view frame) es)) (λ facts. variables_by h.params 0 facts (map (view frame) es))

  -- an argument that passes is behind the walk
  pub passed : (i n first fresh m value next : ℕ) (e : NotedExpr) (b : Bool) (whole : Option Refusal) → i < length es → e ≡ get_or es i e → b ≡ passes (view frame e) n first fresh → b ≡ true → m ≡ capped n 1
      → value ≡ capped first (view frame e).values → next ≡ fresh_behind (view frame e) fresh at → left (drop i es) n first fresh ≡ whole → left (drop (i + 1) es) m value next ≡ whole
  passed i n first fresh m value next e b whole less is owes true_is p q r kept =
      ap (λ k. left (drop k es) m value next) (add-one i) ∙ ap (λ k. left (drop (suc i) es) k value next) p ∙ ap (λ k. left (drop (suc i) es) (capped n 1) k next) q
      ∙ ap (λ k. left (drop (suc i) es) (capped n 1) (capped first (view frame e).values) k) r
      ∙ sym (ap (λ c. if c then left (drop (suc i) es) (capped n 1) (capped first (view frame e).values) (fresh_behind (view frame e) fresh at) else Some (record { code = not_contained; pos = (view frame e).pos })) (sym owes ∙ true_is))
      ∙ ap (λ x. left (x ∷ drop (suc i) es) n first fresh) is ∙ ap (λ l. left l n first fresh) (sym (drop-cons es i e less)) ∙ kept
