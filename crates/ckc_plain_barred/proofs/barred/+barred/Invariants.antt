use Rattle.std.proofs.Common.{◌≡◌, drop}
use Rattle.ckc_plain_barred.specs.code.First.{first, in_each}
use Rattle.ckc_plain_barred.proofs.barred.+barred.Given as goal

-- nothing is refused so far
abbrev pub invariant-first_in_each-loop-s : goal.invariant-first_in_each-loop-s
invariant-first_in_each-loop-s l = first (in_each l.known l.ss l.barred) ≡ first (in_each l.known (drop l.s-index l.ss) l.barred)
