use Rattle.std.proofs.Common.{◌≡◌, drop}
use Rattle.ckc_flow.specs.code.Rows.{all_marked}
use Rattle.ckc_flow.proofs.transfer.mark_all.Given as goal

-- the registers that are left make the rest
abbrev pub invariant-loop-r : goal.invariant-loop-r
invariant-loop-r l = all_marked (drop l.r-index l.rs) l.row ≡ all_marked l.rs l.initial.row
