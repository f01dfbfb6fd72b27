use Rattle.ckc_cli.specs.ckc_cli_commands.specs.World.{untouched}
use Rattle.ckc_wrong_bodies.proofs.Calls as by
use Rattle.ckc_wrong_bodies.proofs.statuses.no_status_comes_always.Goals as goal

pub returns-clause-no_words : goal.returns-clause-no_words
returns-clause-no_words g c = λ words before after input input' out out' store store' s cause fails none.
    by.no_words words before after (untouched input input' out out' store store') s cause none

pub returns-clause-long_text : goal.returns-clause-long_text
returns-clause-long_text g c = λ words before after input input' out out' store store' s cause fails name text given steady more.
    by.long_text words before after (untouched input input' out out' store store') s cause fails name text given steady more

pub returns-clause-no_bytes : goal.returns-clause-no_bytes
returns-clause-no_bytes g c = λ words before after input input' out out' store store' s cause fails name given steady.
    by.no_bytes words before after (untouched input input' out out' store store') s cause fails name given steady
