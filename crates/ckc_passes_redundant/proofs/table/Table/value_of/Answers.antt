use Rattle.ckc_passes_redundant.proofs.Computing.{known_found, numbered_found, if_more}
use Rattle.ckc_passes_redundant.proofs.table.Table.value_of.Goals as goal

pub returns-in-Some : goal.returns-in-Some
returns-in-Some c =
    known_found c.args.operation c.args.a c.args.b c.args.self.now c.in-Some.n c.operand-left.result c.operand-right.result c.operand-left.ensures c.operand-right.ensures c.in-Some.ensures

pub returns-in-None : goal.returns-in-None
returns-in-None c =
    if_more c.numbered.result _ _ c.numbered.ensures
    (numbered_found c.args.operation c.args.a c.args.b c.args.self.now c.numbered.new.self c.number.result c.operand-left.result c.operand-right.result c.number.ensures
    c.operand-left.ensures c.operand-right.ensures c.in-None.ensures)
