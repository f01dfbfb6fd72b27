use Rattle.std.proofs.Common.{subst}
use Rattle.ckc_passes_redundant.specs.code.Tables.{Writes}
use Rattle.ckc_passes_redundant.proofs.Computing.{on_more}
use Rattle.ckc_passes_redundant.proofs.table.Table.copy.Goals as goal

pub returns-clause-writes : goal.returns-clause-writes
returns-clause-writes c =
    on_more c.give.result _ _ c.give.ensures.writes (subst (λ v. Writes c.args.t v c.args.self.now c.give.new.self) c.held_by-value.ensures)
