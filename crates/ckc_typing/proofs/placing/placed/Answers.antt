use Rattle.std.proofs.Common.{sym, subst}
use Rattle.std.specs.Prelude.{List, Err}
use Rattle.ckc_typed.specs.declared.typed.StaticObject.{StaticObject}
use Rattle.ckc_base.specs.MemoryMap.{data_start}
use Rattle.ckc_base.specs.Outcomes.{AnswersOutcome}
use Rattle.ckc_typing.specs.code.Placing.{placed_behind}
use Rattle.ckc_typing.proofs.PlacingTurns.{placed_late}
use Rattle.ckc_typing.proofs.placing.placed.Goals as goal

pub returns-then-next-gt-LAST : goal.returns-then-next-gt-LAST
returns-then-next-gt-LAST c =
    let whole = placed_behind c.args.structs.now data_start c.args.blocks.now in
    subst (λ e. AnswersOutcome {A = List StaticObject} (Err e) whole) (sym c.refused.ensures)
    (placed_late c.args.structs.now c.loop-o.end c.args.blocks.now c.loop-o.o-index whole _ c.loop-o.invariant.kept c.o-item.result _ c.loop-o-test.true c.o-item.is c.end_of_block-next.ensures c.if-next-gt-LAST.true)
