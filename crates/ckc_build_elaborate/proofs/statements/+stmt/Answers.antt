use Rattle.std.proofs.Common.{◌+◌, sym, ◌∙◌, ap, map}
use Rattle.ckc_build_values.specs.Expressions.{expr_elaborated, literals_of}
use Rattle.ckc_build_elaborate.specs.Steps.{assigned, declared, destination_of}
use Rattle.ckc_build_elaborate.specs.Statements.{part_of, part_of_act, all_assigns, stmt_elaborated}
use Rattle.ckc_build_elaborate.specs.code.Statements.{stmts_elaborated}
use Rattle.ckc_build_elaborate.proofs.Blocks.{block_is}
use Rattle.ckc_build_elaborate.proofs.Acts.{goes, declares, assigns_one, assigns_many, branches, repeats, turned, counts}
use Rattle.ckc_build_elaborate.proofs.statements.+stmt.Goals as goal

pub act-returns-in-Block : goal.act-returns-in-Block
act-returns-in-Block t c =
    goes c.stmts.result _ _
    (ap (stmts_elaborated c.args.typed.now c.args.locals.now c.args.gives.now c.args.first) c.as_slice.ensures
    ∙ sym (block_is c.args.typed.now c.args.locals.now c.args.gives.now c.in-Block.field-0 c.in-Block.ss c.args.s.at c.args.s.mode c.args.first)
    ∙ ap (λ a. (part_of_act a).code c.args.s.at c.args.s.mode c.args.typed.now c.args.locals.now c.args.gives.now c.args.first) (sym c.in-Block.is))
    c.stmts.ensures

pub act-returns-in_ok-no-in-If : goal.act-returns-in_ok-no-in-If
act-returns-in_ok-no-in-If t c =
    goes c.one-in-If.result _ _
    (branches c.args.typed.now c.args.locals.now c.args.gives.now c.args.s c.args.first c.args.body.now c.in_ok-test-in-If.test c.in_ok-yes-in-If.yes c.in_ok-no-in-If.no
    c.in_ok-second-in-If.second c.in_ok-third-in-If.third c.in-If.e c.in-If.chosen c.in-If.other c.in-If.is
    (c.in_ok-test-in-If.ensures ∙ ap (expr_elaborated c.args.typed.now c.args.locals.now c.args.first) c.get-in-If.ensures)
    (c.in_ok-second-in-If.ensures ∙ ap (λ e. c.args.first + literals_of e) c.get-in-If-2.ensures)
    (c.in_ok-yes-in-If.ensures ∙ ap (stmt_elaborated c.args.typed.now c.args.locals.now c.args.gives.now c.in_ok-second-in-If.second) c.get-in-If-3.ensures)
    (c.in_ok-third-in-If.ensures ∙ ap (λ b. c.in_ok-second-in-If.second + (part_of b).literals) c.get-in-If-4.ensures)
    c.in_ok-no-in-If.ensures)
    c.one-in-If.ensures

pub act-returns-in_ok-turn-in-While : goal.act-returns-in_ok-turn-in-While
act-returns-in_ok-turn-in-While t c =
    goes c.one-in-While.result _ _
    (repeats c.args.typed.now c.args.locals.now c.args.gives.now c.args.s c.args.first c.args.body.now c.in_ok-test-in-While.test c.in_ok-turn-in-While.turn _
    c.in_ok-second-in-While.second 0 c.in-While.e c.in-While.body c.in-While.is
    (c.in_ok-test-in-While.ensures ∙ ap (expr_elaborated c.args.typed.now c.args.locals.now c.args.first) c.get-in-While.ensures)
    (c.in_ok-second-in-While.ensures ∙ ap (λ e. c.args.first + literals_of e) c.get-in-While-2.ensures)
    (c.in_ok-turn-in-While.ensures ∙ ap (stmt_elaborated c.args.typed.now c.args.locals.now c.args.gives.now c.in_ok-second-in-While.second) c.get-in-While-3.ensures)
    c.new-in-While.ensures)
    c.one-in-While.ensures

pub act-returns-in_ok-made-in-Bundle : goal.act-returns-in_ok-made-in-Bundle
act-returns-in_ok-made-in-Bundle t c =
    goes c.one.result _ _
    (assigns_many c.args.typed.now c.args.locals.now c.args.gives.now c.args.s c.args.first c.args.body.now c.in_ok-made-in-Bundle.made c.in-Bundle.ss c.in-Bundle.is
    (c.in_ok-made-in-Bundle.ensures ∙ ap (λ ss. all_assigns (map part_of ss) c.args.typed.now c.args.locals.now c.args.first) c.as_slice-in-Bundle.ensures))
    c.one.ensures

pub act-returns-in_ok-made-in-Local : goal.act-returns-in_ok-made-in-Local
act-returns-in_ok-made-in-Local t c =
    goes c.one-in-Local.result _ _
    (declares c.args.typed.now c.args.locals.now c.args.gives.now c.args.s c.args.first c.args.body.now c.in_ok-made-in-Local.made c.in-Local.d c.in-Local.is
    (c.in_ok-made-in-Local.ensures ∙ ap (declared c.args.typed.now c.args.locals.now c.args.s c.args.first) c.get.ensures))
    c.one-in-Local.ensures

pub act-returns-in_ok-made-in-Assign : goal.act-returns-in_ok-made-in-Assign
act-returns-in_ok-made-in-Assign t c =
    goes c.one-in-Assign.result _ _
    (assigns_one c.args.typed.now c.args.locals.now c.args.gives.now c.args.s c.args.first c.args.body.now c.in_ok-made-in-Assign.made c.in-Assign.e c.in-Assign.f c.in-Assign.is
    (c.in_ok-made-in-Assign.ensures
    ∙ ap (λ e. assigned c.args.typed.now c.args.locals.now c.args.s (destination_of c.args.typed.now c.args.locals.now c.args.first e) (c.args.first + literals_of e) c.get-in-Assign-2.result.now) c.get-in-Assign.ensures
    ∙ ap (assigned c.args.typed.now c.args.locals.now c.args.s (destination_of c.args.typed.now c.args.locals.now c.args.first c.in-Assign.e) (c.args.first + literals_of c.in-Assign.e)) c.get-in-Assign-2.ensures))
    c.one-in-Assign.ensures

pub act-returns-in_ok-turn-in-For : goal.act-returns-in_ok-turn-in-For
act-returns-in_ok-turn-in-For t c =
    goes c.behind.result _ _
    (counts c.args.typed.now c.args.locals.now c.args.gives.now c.args.s c.args.first c.args.body.now c.in_ok-begin-in-For.begin _
    c.in_ok-second-in-For.second c.in-For.start c.in-For.e c.in-For.step c.in-For.body c.in-For.is c.in_ok-begin-in-For.ensures c.in_ok-second-in-For.ensures
    (turned c.args.typed.now c.args.locals.now c.args.gives.now c.args.s c.in_ok-second-in-For.second c.args.body.now c.in_ok-test-in-For.test c.in_ok-turn-in-For.turn c.in_ok-after-in-For.after
    c.in_ok-third-in-For.third c.in_ok-fourth-in-For.fourth c.in-For.e c.in-For.step c.in-For.body
    c.in_ok-test-in-For.ensures c.in_ok-third-in-For.ensures c.in_ok-after-in-For.ensures c.in_ok-fourth-in-For.ensures
    (c.in_ok-turn-in-For.ensures ∙ ap (stmt_elaborated c.args.typed.now c.args.locals.now c.args.gives.now c.in_ok-fourth-in-For.fourth) c.get-in-For.ensures)))
    c.behind.ensures
