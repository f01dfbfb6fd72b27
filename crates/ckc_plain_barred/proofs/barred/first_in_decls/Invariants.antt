use Rattle.std.proofs.Common.{◌≡◌, drop}
use Rattle.ckc_plain_barred.specs.code.First.{first, in_decls}
use Rattle.ckc_plain_barred.proofs.barred.first_in_decls.Given as goal

-- nothing is refused so far
abbrev pub invariant-loop-d : goal.invariant-loop-d
invariant-loop-d l = first (in_decls l.known l.ds) ≡ first (in_decls l.known (drop l.d-index l.ds))
