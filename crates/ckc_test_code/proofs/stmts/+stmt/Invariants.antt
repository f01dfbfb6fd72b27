use Rattle.std.proofs.Common.{◌+◌, ◌*◌}
use Rattle.ckc_test_code.specs.code.Fine.{IsBody}
use Rattle.ckc_test_code.proofs.stmts.+stmt.Given as goal

abbrev pub decreases-block : goal.decreases-block
decreases-block l = 4 * l.deep + 3

abbrev pub decreases-stmt : goal.decreases-stmt
decreases-stmt l = 4 * l.deep + 2

abbrev pub decreases-branch : goal.decreases-branch
decreases-branch l = 4 * l.deep + 1

abbrev pub decreases-blocks : goal.decreases-blocks
decreases-blocks l = 4 * l.deep

abbrev pub invariant-block-loop-turn : goal.invariant-block-loop-turn
invariant-block-loop-turn l = IsBody l.params l.locals l.looped l.stmts
