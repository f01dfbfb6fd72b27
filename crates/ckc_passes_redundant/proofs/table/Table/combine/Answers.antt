use Rattle.ckc_passes_redundant.proofs.Computing.{combines, on_more}
use Rattle.ckc_passes_redundant.proofs.table.Table.combine.Goals as goal

pub returns-clause-combines : goal.returns-clause-combines
returns-clause-combines c =
    on_more c.give.result _ _ c.give.ensures.writes
    (combines c.args.operation c.args.t c.args.a c.args.b c.args.self.now c.value_of.new.self c.give.new.self c.in_ok-value.value c.in_ok-value.ensures)
