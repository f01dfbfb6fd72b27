use Rattle.std.proofs.Common.{sym, ◌∙◌}
use Rattle.ckc_source.specs.States.{resumed}
use Rattle.ckc_source.specs.Code.{code_of}
use Rattle.ckc_interp.specs.code.Views.{next_of_call, leaving_of}
use Rattle.ckc_interp.proofs.Working.{begun_left, begun_stays}
use Rattle.ckc_interp.proofs.work.begin.Goals as goal

pub returns-in_ok-push_rest-in-None-clause-left : goal.returns-in_ok-push_rest-in-None-clause-left
returns-in_ok-push_rest-in-None-clause-left c = c.in_ok-push_rest-in-None.ensures ∙ sym (begun_stays (code_of c.args.code.now) _ (next_of_call c.args.work.now.items) (sym c.in-None.ensures))

pub returns-in-Some-clause-left : goal.returns-in-Some-clause-left
returns-in-Some-clause-left c = sym (begun_left (code_of c.args.code.now) (leaving_of c.in-Some.how) (λ how. resumed how (next_of_call c.args.work.now.items)) (next_of_call c.args.work.now.items) (sym c.in-Some.ensures))
