use Rattle.ckc_cli_commands.specs.World.{untouched}
use Rattle.ckc_cli.proofs.Meant as meant
use Rattle.ckc_cli.proofs.interpreted.interp_shows_always.Goals as goal

pub returns-clause-interp_ended_always : goal.returns-clause-interp_ended_always
returns-clause-interp_ended_always g c = λ words before after input input' out out' store store' s cause fails name text given limit n value p told m is fine le st.
    meant.ended_always name limit before after (untouched input input' out out' store store') s fails (meant.meaning words before after (untouched input input' out out' store store') name limit told.reads s cause fails) text p told.told.0 m given is fine n value le st

pub returns-clause-interp_stopped_always : goal.returns-clause-interp_stopped_always
returns-clause-interp_stopped_always g c = λ words before after input input' out out' store store' s cause fails name text given limit n check at p told m is fine le st.
    meant.stopped_always name limit before after (untouched input input' out out' store store') s fails (meant.meaning words before after (untouched input input' out out' store store') name limit told.reads s cause fails) text p told.told.0 m given is fine n check at le st

pub returns-clause-interp_going_always : goal.returns-clause-interp_going_always
returns-clause-interp_going_always g c = λ words before after input input' out out' store store' s cause fails name text given limit p told m is fine st.
    meant.going_always name limit before after (untouched input input' out out' store store') s fails (meant.meaning words before after (untouched input input' out out' store store') name limit told.reads s cause fails) text p told.told.0 m given is fine st

pub returns-clause-interp_stuck_always : goal.returns-clause-interp_stuck_always
returns-clause-interp_stuck_always g c = λ words before after input input' out out' store store' s cause fails name text given limit n p told m is fine le st.
    meant.stuck_always name limit before after (untouched input input' out out' store store') s fails (meant.meaning words before after (untouched input input' out out' store store') name limit told.reads s cause fails) text p told.told.0 m given is fine n le st

pub returns-clause-interp_always : goal.returns-clause-interp_always
returns-clause-interp_always g c = λ words before after input input' out out' store store' s cause fails name text limit p told fine m.
    (meant.meaning words before after (untouched input input' out out' store store') name limit told.reads s cause fails).always text p told.told.0 fine m
