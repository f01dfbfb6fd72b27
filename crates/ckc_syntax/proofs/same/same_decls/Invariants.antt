use Rattle.std.proofs.Common.{◌≡◌, drop}
use Rattle.ckc_syntax.specs.code.SameParts.{same_decls}
use Rattle.ckc_syntax.proofs.same.same_decls.Given as goal

abbrev pub invariant-loop-i : goal.invariant-loop-i
invariant-loop-i l = same_decls l.ds l.es ≡ same_decls (drop l.i l.ds) (drop l.i l.es)
