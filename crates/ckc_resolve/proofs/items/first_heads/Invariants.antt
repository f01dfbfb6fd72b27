use Rattle.std.proofs.Common.{◌-◌, drop, length}
use Rattle.ckc_resolve.specs.code.Bodies.{HasFirstHeads}
use Rattle.ckc_resolve.proofs.items.first_heads.Given as goal

abbrev pub invariant-loop-done : goal.invariant-loop-done
invariant-loop-done l = HasFirstHeads l.heads (drop (length l.all - l.done) l.all)
