use Rattle.std.proofs.lemmas.Result.{err_from_is_err_and}
use Rattle.ckc_bounds.specs.code.Declarations.{text_of}
use Rattle.ckc_bounds.proofs.WholeBodies.{begins, framed, body_done, body_fault}
use Rattle.ckc_bounds.proofs.bodies.judge_body.Goals as goal

pub returns-in_err-judged-clause-judged : goal.returns-in_err-judged-clause-judged
returns-in_err-judged-clause-judged c =
    let p = err_from_is_err_and c.from_residual-in_err-judged.result c.from_residual-in_err-judged.ensures.1 in
    let f = framed (text_of c.args.frame.now) _ _ c.in_ok-head.head c.args.h.now c.args.body.now c.in_ok-first.ensures.frame c.in_ok-head.ensures.kept c.in_ok-head.ensures.bounds in
    body_fault (text_of c.args.frame.now) _ c.in_ok-head.head c.args.h.now c.args.body.now _ f c.in_ok-head.ensures.bounds
    (begins (text_of c.args.frame.now) _ c.args.h.now c.args.body.now c.in_ok-first.first _ f c.in_ok-first.ensures.first c.in_ok-walk.ensures)
    _ c.from_residual-in_err-judged.result p.0 c.in_err-judged.field-0.0 p.1 p.2 c.in_err-judged.ensures

pub returns-clause-judged : goal.returns-clause-judged
returns-clause-judged c =
    let f = framed (text_of c.args.frame.now) _ _ c.in_ok-head.head c.args.h.now c.args.body.now c.in_ok-first.ensures.frame c.in_ok-head.ensures.kept c.in_ok-head.ensures.bounds in
    body_done (text_of c.args.frame.now) _ c.in_ok-head.head c.args.h.now c.args.body.now _ f c.in_ok-head.ensures.bounds
    (begins (text_of c.args.frame.now) _ c.args.h.now c.args.body.now c.in_ok-first.first _ f c.in_ok-first.ensures.first c.in_ok-walk.ensures)
    _ _ c.in_ok-judged.ensures
