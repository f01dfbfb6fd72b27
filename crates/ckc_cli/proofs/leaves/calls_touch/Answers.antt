use Rattle.ckc_cli_commands.specs.World.{untouched}
use Rattle.ckc_cli.proofs.Left as left
use Rattle.ckc_cli.proofs.leaves.calls_touch.Goals as goal

pub returns-clause-idle_quietly : goal.returns-clause-idle_quietly
returns-clause-idle_quietly g c = λ words before after input input' out out' store store' s cause w d n.
    (left.idle_by words before after (untouched input input' out out' store store') s cause w d n).0

pub returns-clause-idle_untaken : goal.returns-clause-idle_untaken
returns-clause-idle_untaken g c = λ words before after input input' out out' store store' s cause w d n.
    (left.idle_by words before after (untouched input input' out out' store store') s cause w d n).1

pub returns-clause-kept_quietly : goal.returns-clause-kept_quietly
returns-clause-kept_quietly g c = λ words before after input input' out out' store store' s cause name w.
    (left.keeper_touches words before after (untouched input input' out out' store store') s cause name w).0

pub returns-clause-kept_untaken : goal.returns-clause-kept_untaken
returns-clause-kept_untaken g c = λ words before after input input' out out' store store' s cause name w.
    (left.keeper_touches words before after (untouched input input' out out' store store') s cause name w).1

pub returns-clause-listed_untaken : goal.returns-clause-listed_untaken
returns-clause-listed_untaken g c = λ words before after input input' out out' store store' s cause name w.
    left.list_takes_nothing words before after (untouched input input' out out' store store') s cause name w

pub returns-clause-checked_untaken : goal.returns-clause-checked_untaken
returns-clause-checked_untaken g c = λ words before after input input' out out' store store' s cause name w.
    left.check_takes_nothing words before after (untouched input input' out out' store store') s cause name w
