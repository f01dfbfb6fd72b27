-- Where unchecked code ran first does not change as a run goes on.
use Rattle.std.proofs.Common.{◌≡◌, ℕ, zero, suc, ◌≤◌, Option, Some, arith}
use Rattle.ckc_base.specs.declared.arithmetic.Mode.{Mode}
use Rattle.ckc_base.specs.declared.arithmetic.Mode.TheVariants.{Checked, Unchecked}
use Rattle.ckc_base.specs.declared.places.Pos.{Pos}
use Rattle.ckc_base.specs.Traces.{Event}
use Rattle.ckc_base.specs.Steps.{Move, Goes, Halts}
use Rattle.ckc_source.specs.declared.stmt.Spot.{Spot}
use Rattle.ckc_source.specs.Code.{Program}
use Rattle.ckc_source.specs.States.{State}
use Rattle.ckc_source.specs.Steps.{source_step, spot_of}
use Rattle.ckc_source.specs.Source.{on_next, by_mode, first_unchecked}

next_kept : (f g : State → Option Pos) (at : Pos) (move : Move Event State) → ((u : State) → f u ≡ Some at → g u ≡ Some at)
    → on_next f move ≡ Some at → on_next g move ≡ Some at
next_kept f g at (Goes events u) h e = h u e
next_kept f g at (Halts events standing) h e = absurd cc

mode_kept : (spot : Spot) (x y : Option Pos) (at : Pos) (mode : Mode) → (x ≡ Some at → y ≡ Some at)
    → by_mode spot x mode ≡ Some at → by_mode spot y mode ≡ Some at
mode_kept spot x y at Unchecked h e = e
mode_kept spot x y at Checked h e = h e

pub first_kept : (p : Program) (n k : ℕ) (s : State) (at : Pos) → n ≤ k → first_unchecked p n s ≡ Some at → first_unchecked p k s ≡ Some at
unfolding first_unchecked
first_kept p zero k s at h e = absurd cc
first_kept p (suc n) zero s at h e = absurd (omega arith)
first_kept p (suc n) (suc k) s at h e =
    mode_kept (spot_of s) (on_next (first_unchecked p n) (source_step p s)) (on_next (first_unchecked p k) (source_step p s)) at (spot_of s).mode
    (next_kept (first_unchecked p n) (first_unchecked p k) at (source_step p s) (λ u f. first_kept p n k u at (omega arith) f)) e
