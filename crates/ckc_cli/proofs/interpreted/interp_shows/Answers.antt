use Rattle.std.proofs.Common.{Some, sym, ap}
use Rattle.ckc_interp.specs.declared.seen.Seen.TheVariants as seen
use Rattle.ckc_cli_commands.specs.World.{untouched}
use Rattle.ckc_cli.proofs.Meant as meant
use Rattle.ckc_cli.proofs.interpreted.interp_shows.Goals as goal

pub returns-clause-interp_ended : goal.returns-clause-interp_ended
returns-clause-interp_ended g c = λ words before after input input' out out' store store' s cause name limit value reads e.
    meant.shown_by words before after (untouched input input' out out' store store') name limit reads s cause (seen.Ended value) (λ q. cc) (ap Some (sym e))

pub returns-clause-interp_stopped : goal.returns-clause-interp_stopped
returns-clause-interp_stopped g c = λ words before after input input' out out' store store' s cause name limit check at reads e.
    meant.shown_by words before after (untouched input input' out out' store store') name limit reads s cause (seen.Stopped check at) (λ q. cc) (ap Some (sym e))

pub returns-clause-interp_going : goal.returns-clause-interp_going
returns-clause-interp_going g c = λ words before after input input' out out' store store' s cause name limit reads e.
    meant.shown_by words before after (untouched input input' out out' store store') name limit reads s cause seen.Going (λ q. cc) (ap Some (sym e))

pub returns-clause-interp_stuck : goal.returns-clause-interp_stuck
returns-clause-interp_stuck g c = λ words before after input input' out out' store store' s cause name limit at since reads e.
    meant.shown_by words before after (untouched input input' out out' store store') name limit reads s cause (seen.Stuck at (Some since)) (λ q. cc) (ap Some (sym e))

pub returns-clause-interp_memory : goal.returns-clause-interp_memory
returns-clause-interp_memory g c = λ words before after input input' out out' store store' s cause name limit reads e.
    meant.memory_by words before after (untouched input input' out out' store store') name limit reads s cause e
