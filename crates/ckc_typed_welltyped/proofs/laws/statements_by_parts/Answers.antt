use Rattle.ckc_typed_welltyped.proofs.ByParts.{stmt_by_parts}
use Rattle.ckc_typed_welltyped.proofs.laws.statements_by_parts.Goals as goal

pub returns : goal.returns
returns c = record {
  statements = stmt_by_parts;
}
