use Rattle.std.proofs.Common.{◌≡◌, ◌++◌, drop, map}
use Rattle.ckc_core.specs.Code.{expr_of}
use Rattle.ckc_source.specs.Code.{expr_of as source_of}
use Rattle.ckc_checks_follow.specs.code.Inserted.{operands}
use Rattle.ckc_checks.proofs.statements.operands.Given as goal

abbrev pub invariant-loop-e : goal.invariant-loop-e
invariant-loop-e l =
    map expr_of l.done ++ operands (map source_of (drop l.e-index l.es)) l.next ≡ operands (map source_of l.es) l.t
