use Rattle.std.proofs.Common.{◌≡◌, take}
use Rattle.ckc_syntax.proofs.copies.copied_decls.Given as goal

abbrev pub invariant-loop-d : goal.invariant-loop-d
invariant-loop-d g l = l.all ≡ take l.d-index l.ds
