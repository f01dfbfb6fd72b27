use Rattle.ckc_asm.proofs.StatementRows.{with_none, with_some}
use Rattle.ckc_asm.proofs.statements.statement_with.Goals as goal

pub returns-in-Some-clause-row : goal.returns-in-Some-clause-row
returns-in-Some-clause-row c = with_some _ _ _ _ _ _ c.item_of.ensures.item c.in-Some.is c.operand_index.ensures c.word_at-operand.ensures

pub returns-in-None-clause-row : goal.returns-in-None-clause-row
returns-in-None-clause-row c = with_none _ _ _ c.item_of.ensures.item c.in-None.is
