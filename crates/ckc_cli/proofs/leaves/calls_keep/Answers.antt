use Rattle.ckc_cli_commands.specs.World.{untouched}
use Rattle.ckc_cli.proofs.Left as left
use Rattle.ckc_cli.proofs.leaves.calls_keep.Goals as goal

pub returns-clause-keeps_once : goal.returns-clause-keeps_once
returns-clause-keeps_once g c = λ words before after input input' out out' store store' s cause.
    left.keeps_once words before after (untouched input input' out out' store store') s cause

pub returns-clause-keeps_images : goal.returns-clause-keeps_images
returns-clause-keeps_images g c = λ words before after input input' out out' store store' s cause n.
    left.keeps_images words before after (untouched input input' out out' store store') s cause n

pub returns-clause-keeps_for_commands : goal.returns-clause-keeps_for_commands
returns-clause-keeps_for_commands g c = λ words before after input input' out out' store store' s cause none.
    left.keeps_for_commands words before after (untouched input input' out out' store store') s cause none

pub returns-clause-kept_done : goal.returns-clause-kept_done
returns-clause-kept_done g c = λ words before after input input' out out' store store' s cause n.
    left.kept_done words before after (untouched input input' out out' store store') s cause n
