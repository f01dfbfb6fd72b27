use Rattle.std.proofs.Common.{[], ◌∙◌, ap}
use Rattle.ckc_interp.specs.code.Views.{work_of, next_of_call}
use Rattle.ckc_interp.proofs.Working.{stacked-push}
use Rattle.ckc_interp.proofs.work.push_rest.Goals as goal

pub returns : goal.returns
returns c = ap next_of_call c.in_ok-push.ensures.items ∙ stacked-push work_of c.args.work.now.items _ []
