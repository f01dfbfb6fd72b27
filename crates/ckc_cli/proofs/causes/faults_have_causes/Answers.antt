use Rattle.std.proofs.Common.{inr}
use Rattle.ckc_cli_commands.specs.declared.status.Status.TheVariants as status
use Rattle.ckc_cli_commands.specs.World.{untouched}
use Rattle.ckc_cli.proofs.Statuses as by
use Rattle.ckc_cli.proofs.Always as always
use Rattle.ckc_cli.proofs.Failing.{input_rose, output_rose, store_rose}
use Rattle.ckc_cli.proofs.causes.faults_have_causes.Goals as goal

pub returns-clause-read_fault : goal.returns-clause-read_fault
returns-clause-read_fault g c = λ words before after input input' out out' store store' s cause fails e.
    input_rose before after s fails e

pub returns-clause-write_fault : goal.returns-clause-write_fault
returns-clause-write_fault g c = λ words before after input input' out out' store store' s cause fails e.
    output_rose before after s fails e

pub returns-clause-cut_short : goal.returns-clause-cut_short
returns-clause-cut_short g c = λ words before after input input' out out' store store' s cause e.
    by.says_of words before after (untouched input input' out out' store store') s status.WriteFault cause e

pub returns-clause-store_fault : goal.returns-clause-store_fault
returns-clause-store_fault g c = λ words before after input input' out out' store store' s cause fails e.
    store_rose before after s fails e

pub returns-clause-steady : goal.returns-clause-steady
returns-clause-steady g c = λ words before after input input' out out' store store' s cause fails command bytes given steady e.
    always.never_store_fault words before after (untouched input input' out out' store store') command bytes given (inr steady) s cause fails e
