use Rattle.std.proofs.Common.{◌+◌, ◌*◌}
use Rattle.ckc_test_code.proofs.exprs.+expr.Given as goal

abbrev pub decreases-expr : goal.decreases-expr
decreases-expr l = 2 * l.deep

abbrev pub decreases-pair : goal.decreases-pair
decreases-pair l = 2 * l.deep + 1
