use Rattle.ckc_typed_welltyped.proofs.ByParts.{expr_by_parts, limits_by_parts}
use Rattle.ckc_typed_welltyped.proofs.laws.expressions_by_parts.Goals as goal

pub returns : goal.returns
returns c = record {
  expressions = expr_by_parts;
  bounds = limits_by_parts;
}
