use Rattle.std.proofs.Common.{◌≡◌, replicate, false}
use Rattle.ckc_flow.proofs.rows.empty_rows.Given as goal

abbrev pub invariant-loop-b : goal.invariant-loop-b
invariant-loop-b l = l.rows.items ≡ replicate l._b (replicate l.regs false)
