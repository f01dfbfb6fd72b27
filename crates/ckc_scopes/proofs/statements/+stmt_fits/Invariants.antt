use Rattle.std.proofs.Common.{◌≡◌, drop}
use Rattle.std.specs.Prelude.{flat_map}
use Rattle.ckc_typed.specs.Walk.{spots_of_stmt}
use Rattle.ckc_scopes.specs.code.Verdict.{verdict}
use Rattle.ckc_scopes.proofs.statements.+stmt_fits.Given as goal

-- what is left gives what the whole gives
abbrev pub invariant-stmts_fit-loop-stmt : goal.invariant-stmts_fit-loop-stmt
invariant-stmts_fit-loop-stmt l =
    verdict l.items (flat_map spots_of_stmt l.stmts) ≡ verdict l.items (flat_map spots_of_stmt (drop l.stmt-index l.stmts))
