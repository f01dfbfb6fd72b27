use Rattle.std.specs.Prelude.{All}
use Rattle.ckc_test_code.specs.code.Fine.{IsExpr}
use Rattle.ckc_test_code.proofs.stmts.arguments.Given as goal

abbrev pub invariant-loop-turn : goal.invariant-loop-turn
invariant-loop-turn l = All (IsExpr l.locals 1000) l.args
