use Rattle.ckc_typed.specs.Expressions.{expr_typed, limits_typed}
use Rattle.ckc_typed_welltyped.specs.Noteless.{bare_expr, bare_limits}
use Rattle.ckc_typed_welltyped.specs.Expressions.{WellTypedExpr, WellTypedLimits}
use Rattle.ckc_typed_welltyped.proofs.Exactly.{exactly}
use Rattle.ckc_typed_welltyped.proofs.TypedNodes.{expr_gives, limits_give}
use Rattle.ckc_typed_welltyped.proofs.Backs.{expr_back, limits_back}
use Rattle.ckc_typed_welltyped.proofs.laws.expressions_exactly.Goals as goal

pub returns : goal.returns
returns c = record {
  expressions = λ g v m. exactly (expr_typed g v m) bare_expr (WellTypedExpr g v m) (expr_gives g v m) (expr_back g v m);
  bounds = λ g v m. exactly (limits_typed g v m) bare_limits (WellTypedLimits g v m) (limits_give g v m) (limits_back g v m);
}
