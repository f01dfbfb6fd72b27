use Rattle.std.proofs.lemmas.Result.{err_from_is_err_and}
use Rattle.ckc_bounds.specs.code.Declarations.{text_of}
use Rattle.ckc_bounds.specs.Texts.{body_judged, function_judged}
use Rattle.ckc_base.proofs.Ends.{stops}
use Rattle.ckc_bounds.proofs.WholeFunctions.{function_fault, function_done}
use Rattle.ckc_bounds.proofs.items.judge_function.Goals as goal

pub returns-in_err-judged-clause-judged : goal.returns-in_err-judged-clause-judged
returns-in_err-judged-clause-judged c =
    let p = err_from_is_err_and c.from_residual-in_err-judged.result c.from_residual-in_err-judged.ensures.1 in
    stops (body_judged (text_of c.judge_head.new.frame) c.args.h.now c.args.body.now) (function_judged (text_of c.args.frame.now) c.args.h.now c.args.body.now)
    c.from_residual-in_err-judged.result p.0 c.in_err-judged.field-0.0 p.1 p.2 c.in_err-judged.ensures.judged
    (function_fault (text_of c.args.frame.now) (text_of c.judge_head.new.frame) c.args.h.now c.in_ok-head.head c.args.body.now c.in_ok-head.ensures.kept c.in_ok-head.ensures.judged)

pub returns-clause-judged : goal.returns-clause-judged
returns-clause-judged c =
    function_done (text_of c.args.frame.now) (text_of c.judge_head.new.frame) c.args.h.now c.in_ok-head.head c.args.body.now c.in_ok-head.ensures.kept c.in_ok-head.ensures.judged
    c.in_ok-judged.judged _ c.in_ok-judged.ensures.judged c.in_ok-boxed.ensures
