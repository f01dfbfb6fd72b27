use Rattle.ckc_cli_commands.specs.World.{untouched}
use Rattle.ckc_cli.proofs.Left as left
use Rattle.ckc_cli.proofs.leaves.files_stay.Goals as goal

pub returns-clause-files : goal.returns-clause-files
returns-clause-files g c = λ words before after input input' out out' store store' s cause none.
    left.files_same words before after (untouched input input' out out' store store') s cause none

pub returns-clause-others : goal.returns-clause-others
returns-clause-others g c = λ words before after input input' out out' store store' s cause name w.
    left.others_kept words before after (untouched input input' out out' store store') s cause name w

pub returns-clause-refused_keeps : goal.returns-clause-refused_keeps
returns-clause-refused_keeps g c = λ words before after input input' out out' store store' s cause d t m.
    left.refused_keeps words before after (untouched input input' out out' store store') s cause d t m

pub returns-clause-unkept_files : goal.returns-clause-unkept_files
returns-clause-unkept_files g c = λ words before after input input' out out' store store' s cause n.
    left.unkept_files words before after (untouched input input' out out' store store') s cause n
