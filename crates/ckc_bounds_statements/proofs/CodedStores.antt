-- Which codes the refusals of the bounds phase have: of assignments.
use Rattle.std.proofs.Common.{inl, inr, ℕ, List}
use Rattle.std.specs.Prelude.{Ok}
use Rattle.ckc_base.proofs.Codes
use Rattle.ckc_typed.specs.Trees.{NotedStmt}
use Rattle.ckc_bounds_points.specs.declared.frame.HeadBounds.{HeadBounds}
use Rattle.ckc_bounds_points.specs.declared.frame.Frame.{Frame}
use Rattle.ckc_bounds_stores.specs.Stores.{stores_of, stored, passed}
use Rattle.ckc_bounds_stores.proofs.Coded.{IsStoreCode, stored_coded}
use Rattle.ckc_bounds_statements.specs.Paths.{Here, behind_stores}
use Rattle.ckc_bounds_statements.specs.Codes.{IsBoundsCode}
use Rattle.ckc_bounds_statements.proofs.Coded.{HasCode}

widened : (code : ℕ) → IsStoreCode code → IsBoundsCode code
widened code (inl e) = inr (inl e)
widened code (inr (inl e)) = inr (inr (inr (inl e)))
widened code (inr (inr e)) = inr (inr (inr (inr (inl e))))

pub stores_coded : (frame : Frame) (head : HeadBounds) (ss : List NotedStmt) (first : ℕ) (h : Here) → HasCode (behind_stores frame head ss first h)
stores_coded frame head ss first h =
    Codes.bound IsBoundsCode _ _ (Codes.chosen IsBoundsCode h.counting (Ok (passed frame (stores_of ss) first h.at)) (stored frame head.bounds h.seen (stores_of ss) first h.at) tt
    (Codes.has_code IsBoundsCode (stored frame head.bounds h.seen (stores_of ss) first h.at) (λ r e. widened r.code (stored_coded frame head.bounds h.seen (stores_of ss) first h.at r e)))) (λ at. tt)
