use Rattle.ckc_cli_commands.specs.declared.status.Status.TheVariants as status
use Rattle.ckc_cli_commands.specs.World.{untouched}
use Rattle.ckc_cli.proofs.Statuses as by
use Rattle.ckc_cli.proofs.causes.statuses_have_causes.Goals as goal

pub returns-clause-usage : goal.returns-clause-usage
returns-clause-usage g c = λ words before after input input' out out' store store' s cause.
    by.usage_is words before after (untouched input input' out out' store store') s cause

pub returns-clause-unasked : goal.returns-clause-unasked
returns-clause-unasked g c = λ words before after input input' out out' store store' s cause e.
    (by.says_of words before after (untouched input input' out out' store store') s status.Usage cause e).2

pub returns-clause-refused : goal.returns-clause-refused
returns-clause-refused g c = λ words before after input input' out out' store store' s cause fault e.
    by.says_of words before after (untouched input input' out out' store store') s (status.Refused fault) cause e

pub returns-clause-bad_image : goal.returns-clause-bad_image
returns-clause-bad_image g c = λ words before after input input' out out' store store' s cause part e.
    by.says_of words before after (untouched input input' out out' store store') s (status.BadImage part) cause e

pub returns-clause-done : goal.returns-clause-done
returns-clause-done g c = λ words before after input input' out out' store store' s cause e.
    by.says_of words before after (untouched input input' out out' store store') s status.Done cause e

pub returns-clause-shown : goal.returns-clause-shown
returns-clause-shown g c = λ words before after input input' out out' store store' s cause o n e.
    by.shown_by words before after (untouched input input' out out' store store') s cause o n e

pub returns-clause-stuck : goal.returns-clause-stuck
returns-clause-stuck g c = λ words before after input input' out out' store store' s cause at since e.
    by.stuck_by words before after (untouched input input' out out' store store') s cause at since e
