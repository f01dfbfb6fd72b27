use Rattle.ckc_cli_commands.specs.World.{untouched}
use Rattle.ckc_cli.proofs.Always as always
use Rattle.ckc_cli.proofs.Execs as execs
use Rattle.ckc_cli.proofs.outcomes.causes_give_statuses.Goals as goal

pub returns-clause-outcome_always : goal.returns-clause-outcome_always
returns-clause-outcome_always g c = λ words before after input input' out out' store store' s cause fails command bytes wanted given fine x.
    always.outcome_always words before after (untouched input input' out out' store store') command bytes given fine s cause fails wanted x

pub returns-clause-refused_always : goal.returns-clause-refused_always
returns-clause-refused_always g c = λ words before after input input' out out' store store' s cause fails command bytes fault given fine x.
    always.refused_always words before after (untouched input input' out out' store store') command bytes given fine s cause fails fault x

pub returns-clause-bad_image_always : goal.returns-clause-bad_image_always
returns-clause-bad_image_always g c = λ words before after input input' out out' store store' s cause fails command bytes part given fine x.
    always.bad_always words before after (untouched input input' out out' store store') command bytes given fine s cause fails part x

pub returns-clause-kept_always : goal.returns-clause-kept_always
returns-clause-kept_always g c = λ words before after input input' out out' store store' s cause fails command bytes name image given fine x.
    always.kept_always words before after (untouched input input' out out' store store') command bytes given fine s cause fails name image x

pub returns-clause-built_always : goal.returns-clause-built_always
returns-clause-built_always g c = λ words before after input input' out out' store store' s cause fails source name text p given fine m.
    execs.built_always words before after (untouched input input' out out' store store') s cause fails source name text p given fine m

pub returns-clause-listed_always : goal.returns-clause-listed_always
returns-clause-listed_always g c = λ words before after input input' out out' store store' s cause fails command bytes text given fine x n.
    always.listed_always words before after (untouched input input' out out' store store') command bytes given fine s cause fails text x n

pub returns-clause-shown_always : goal.returns-clause-shown_always
returns-clause-shown_always g c = λ words before after input input' out out' store store' s cause fails command bytes parts limit given fine x.
    always.ran_always words before after (untouched input input' out out' store store') command bytes given fine s cause fails parts limit x

pub returns-clause-run_always : goal.returns-clause-run_always
returns-clause-run_always g c = λ words before after input input' out out' store store' s cause fails name text limit p given fine m.
    execs.run_always words before after (untouched input input' out out' store store') s cause fails name text limit p given m fine
