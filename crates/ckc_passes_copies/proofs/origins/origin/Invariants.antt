use Rattle.std.proofs.Common.{◌≡◌}
use Rattle.ckc_passes_copies.specs.Origins.{origin}
use Rattle.ckc_passes_copies.specs.code.Tables.{last_in, writes_in}
use Rattle.ckc_passes_copies.proofs.origins.origin.Given as goal

abbrev pub invariant-chain : goal.invariant-chain
invariant-chain l = origin (writes_in l.table) l.q ≡ origin (writes_in l.table) l.r

abbrev pub decreases-chain : goal.decreases-chain
decreases-chain l = (last_in l.table l.q).at
