use Rattle.std.proofs.Common.{◌≡◌, inl, inr, ⊎_elim, ◌+◌, ◌<◌, ◌≤◌, arith}
use Rattle.std.proofs.lemmas.Bool.{cases_lt}
use Rattle.ckc_assign.proofs.Growing.{sees_then}
use Rattle.ckc_assign.proofs.ranges.see_params.Goals as goal

pub loop-r-preserved : goal.loop-r-preserved
loop-r-preserved c =
    let r = c.loop-r.r in
    sees_then 1 (λ q. q < r) (λ q. r ≡ q) (λ q. q < r + 1) c.args.ranges.now c.loop-r.ranges c.see.new.ranges c.loop-r.invariant c.see.ensures
    (λ q h. ⊎_elim (λ (less : q < r). inl less) (λ (more : r ≤ q). inr (omega arith)) (cases_lt q r)) (λ q h. omega arith) (λ q h. omega arith)
