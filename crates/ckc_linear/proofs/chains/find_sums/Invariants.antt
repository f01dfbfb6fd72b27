use Rattle.ckc_linear.specs.code.Rows.{IsRow}
use Rattle.ckc_linear.proofs.chains.find_sums.Given as goal

abbrev pub invariant-loop-most : goal.invariant-loop-most
invariant-loop-most l = IsRow l.facts.list l.y l._most l.sums
