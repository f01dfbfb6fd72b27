use Rattle.ckc_typed.specs.Statements.{stmt_typed}
use Rattle.ckc_typed_welltyped.specs.Noteless.{bare_stmt}
use Rattle.ckc_typed_welltyped.specs.Statements.{WellTypedStmt}
use Rattle.ckc_typed_welltyped.proofs.Exactly.{exactly}
use Rattle.ckc_typed_welltyped.proofs.TypedActs.{stmt_gives}
use Rattle.ckc_typed_welltyped.proofs.ActsBack.{stmt_back}
use Rattle.ckc_typed_welltyped.proofs.laws.statements_exactly.Goals as goal

pub returns : goal.returns
returns c = record {
  statements = λ g v r m l. exactly (λ s. stmt_typed g v r s m l) bare_stmt (λ n. WellTypedStmt g v r n m l) (λ s n. stmt_gives g v r s m l n) (λ n. stmt_back g v r n m l);
}
