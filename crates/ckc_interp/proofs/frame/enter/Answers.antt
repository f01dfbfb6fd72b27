use Rattle.std.proofs.Common.{◌-◌, ◌++◌, [], ◌∷◌, length, replicate, ◌∙◌, ap}
use Rattle.ckc_source.specs.Code.{code_of, function_of}
use Rattle.ckc_source.specs.States.{Rest}
use Rattle.ckc_interp.specs.code.Views.{work_of, next_of_call}
use Rattle.ckc_interp.proofs.Acting.{framed}
use Rattle.ckc_interp.proofs.Working.{stacked-push, stacked-nil}
use Rattle.ckc_interp.proofs.frame.enter.Goals as goal

pub returns : goal.returns
returns c =
    framed (function_of c.args.function.now) _ _ c.args.values.items _ _
    (c.in_ok-locals.ensures ∙ ap (λ vs. vs ++ replicate (c.args.function.now.locals - length vs) 0) c.as_slice.ensures.value)
    (ap next_of_call c.in_ok-push.ensures.items ∙ stacked-push work_of c.new-work.result.items _ []
    ∙ ap (λ w. Rest (code_of c.as_slice-2.result.now) ∷ next_of_call w) c.new-work.ensures.items
    ∙ ap (λ w. Rest (code_of c.as_slice-2.result.now) ∷ w) (stacked-nil work_of [])
    ∙ ap (λ b. Rest (code_of b) ∷ []) c.as_slice-2.ensures)
