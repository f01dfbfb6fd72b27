use Rattle.std.proofs.Common.{[], ◌∷◌, ◌∙◌, ap}
use Rattle.ckc_interp.specs.code.Views.{frame_of, caller_of, core_of, stacked}
use Rattle.ckc_interp.proofs.Acting.{with_parts}
use Rattle.ckc_interp.proofs.Working.{stacked-push}
use Rattle.ckc_interp.proofs.run.Run.suspend.Goals as goal

pub returns-clause-state : goal.returns-clause-state
returns-clause-state c =
    let callers = stacked caller_of c.args.self.now.callers.items [] in
    with_parts (core_of c.args.self.now) _ _ _ _ (ap frame_of c.replace-waits.ensures.after)
    (ap (λ xs. stacked caller_of xs []) c.in_ok-push.ensures.items ∙ stacked-push caller_of c.args.self.now.callers.items _ []
    ∙ ap (λ f. record { frame = frame_of f; target = c.args.target } ∷ callers) c.replace-waits.ensures.value)
