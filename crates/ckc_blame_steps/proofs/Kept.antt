-- The point after a call that a statement is, or whose result goes to a name.
use Rattle.std.proofs.Common.{◌≡◌, refl, sym, ap, subst, ℕ, List, [], ◌∷◌}
use Rattle.std.specs.Prelude.{None, Some, Ok}
use Rattle.std.specs.List.{All}
use Rattle.ckc_typed.specs.declared.typed.Typed.{Typed}
use Rattle.ckc_blame_sound.specs.ckc_bounds_points.specs.declared.frame.Local.{Local}
use Rattle.ckc_blame_sound.specs.ckc_bounds_points.specs.Frames.{local_at}
use Rattle.ckc_blame_sound.specs.ckc_bounds_stores.specs.Stores.{Placed, stored_placed}
use Rattle.ckc_blame_sound.specs.ckc_bounds_stores.specs.Targets.{local_of}
use Rattle.ckc_blame_sound.specs.ckc_bounds_statements.specs.Paths.{Here}
use Rattle.ckc_source.specs.declared.outcome.Place.TheVariants as place
use Rattle.ckc_source.specs.declared.stmt.Kept.TheVariants as kept
use Rattle.ckc_source.specs.Blocks.{Block}
use Rattle.ckc_source.specs.States as states
use Rattle.ckc_source.specs.Steps.{Write}
use Rattle.ckc_build_elaborate.specs.Shapes.{shapes_elaborated}
use Rattle.ckc_build_values.specs.Kinds.{width_of}
use Rattle.ckc_blame_sound.specs.Calls.{store_in}
use Rattle.ckc_blame_sound.specs.Points.{HoldsAt}
use Rattle.ckc_blame_sound.specs.Settings.{Setting}
use Rattle.ckc_blame_sound.specs.Sound.{IsPlaced}
use Rattle.ckc_blame_sound.specs.Valuations.{Valuation, AreFacts, IsValuationOf}
use Rattle.ckc_blame_sound.specs.Ends.{HaveEnds}
use Rattle.ckc_blame_given.specs.Written.{IsFitting, IsReceived, IsWritten}
use Rattle.ckc_blame_given.proofs.Points.{alone_after}
use Rattle.ckc_blame_steps.specs.Results.{kept_in}

-- a target is a local of its type
pub record IsLocalThere (s : Setting) (p : Placed) (k : ℕ) : Type 0 where
  pub local : Local
  pub there : local_at s.frame k ≡ Some local
  pub same : p.target.note.ctype ≡ local.ctype

module _ (p : Typed) (blocks : List Block) (frame : states.Frame) (s : Setting) (here behind : Here) (v : Valuation) (ends : HaveEnds s) (holds : HoldsAt s (store_in p blocks frame) frame.entry here)
    (values : IsValuationOf s frame.locals v) (known : AreFacts v here.at.facts) (placed : All (IsPlaced s.text) blocks) (q : Placed) (n : ℕ)
    (leads : stored_placed s.frame s.head.bounds here.seen (q ∷ []) here.at ≡ Ok behind.at) (seen : behind.seen ≡ here.seen) where
  abbrev state : states.Frame → states.State
  state f = record { blocks = blocks; next = 0; frame = f; callers = []; input = [] }

  -- nothing is written to a local
  pub elsewhere : local_of q.target ≡ None → HoldsAt s (store_in p blocks frame) frame.entry behind
  elsewhere none =
      alone_after s (shapes_elaborated p.layout) (state frame) (state frame) v frame.entry here behind q (place.Nowhere, n) ends holds values known placed
      (subst (λ o. IsWritten s (store_in p blocks frame) v here.at q o (place.Nowhere, n)) (sym none) tt) leads seen refl (λ to m low high e. e)

  module _ (fits : IsFitting s q) (there : (k : ℕ) → local_of q.target ≡ Some k → IsLocalThere s q k)
      (received : (k : ℕ) → local_of q.target ≡ Some k → IsReceived s (store_in p blocks frame) v here.at q.target.note.ctype q.right q.from n) where
    pub goes_local : (k : ℕ) → local_of q.target ≡ Some k
        → HoldsAt s (store_in p blocks (kept_in (Some (kept.Local k (width_of q.target.note.ctype))) n frame)) frame.entry behind
    goes_local k is =
        let l = there k is in
        let to : Write = (place.Local k (width_of q.target.note.ctype), n) in
        alone_after s (shapes_elaborated p.layout) (state frame) (state (kept_in (Some (kept.Local k (width_of q.target.note.ctype))) n frame)) v frame.entry here behind q to ends holds values known placed
        (subst (λ o. IsWritten s (store_in p blocks frame) v here.at q o to) (sym is)
        (record { local = l.local; there = l.there; below = fits.below k is; same = l.same; goes = ap (λ t. place.Local k (width_of t)) l.same; received = received k is }))
        leads seen refl (λ to m low high e. e)
