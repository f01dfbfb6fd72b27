use Rattle.std.proofs.Common.{◌∙◌, ap}
use Rattle.ckc_typed.specs.Trees.{NotedStmt}
use Rattle.ckc_bounds.specs.code.Declarations.{with_turns}
use Rattle.ckc_bounds_statements.specs.Paths.{path}
use Rattle.ckc_bounds.proofs.LocalsJoined.{goes_on, if_done, for_done, turn_done}
use Rattle.ckc_bounds.proofs.locals.+locals.Goals as goal

pub add_act-returns-in_ok-add_stmt-in-If : goal.add_act-returns-in_ok-add_stmt-in-If
add_act-returns-in_ok-add_stmt-in-If t c =
    goes_on _ _ _ _
    (if_done c.args.frame.now c.args.turn c.args.all.now c.args.act.now _ c.in-If.s c.in-If.t _ c.in-If.is
    (c.in_ok-add_stmt-in-If.ensures ∙ ap (λ (x : NotedStmt). with_turns c.args.frame.now c.args.turn c.args.all.now (path x).declared) c.get-in-If.ensures))
    c.add_part.ensures

pub add_act-returns-in_ok-add_stmt-in-For : goal.add_act-returns-in_ok-add_stmt-in-For
add_act-returns-in_ok-add_stmt-in-For t c =
    goes_on _ _ _ _
    (for_done c.args.frame.now c.args.turn c.args.all.now c.args.act.now c.in-For.s c.in-For.field-1 c.in-For.t c.in-For.body c.add_part-in-For.new.all c.add_stmt-in-For.new.all c.in-For.is c.in_ok-add_part-in-For.ensures
    (c.in_ok-add_stmt-in-For.ensures ∙ ap (λ (x : NotedStmt). with_turns c.args.frame.now c.args.turn c.add_part-in-For.new.all (path x).declared) c.get-in-For.ensures))
    c.add_part-in-For-2.ensures

pub add_stmts-loop-s-preserved : goal.add_stmts-loop-s-preserved
add_stmts-loop-s-preserved t c =
    turn_done c.args.frame.now c.args.turn c.loop-s.all c.args.all.now c.args.ss.now c.loop-s.s-index c.s-item.result _ c.loop-s-test.true c.s-item.is c.loop-s.invariant c.in_ok-add_stmt.ensures
