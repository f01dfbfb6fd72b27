use Rattle.ckc_outside.specs.declared.traits.Fetched.{Fetched}
use Rattle.ckc_outside.specs.declared.traits.StoreError.TheVariants.{Failed, Memory}
use Rattle.ckc_cli_commands.proofs.Fetching.{given, failed, asked_one}
use Rattle.ckc_cli_commands.proofs.Obeying.{faults_by}
use Rattle.ckc_cli_commands.proofs.commands.fetch.Goals as goal

pub returns-in-Ok-clause-fetches : goal.returns-in-Ok-clause-fetches
returns-in-Ok-clause-fetches g c = given c.in-Ok.fetched c.args.name.now c.args.limit (g.F.Store.seen c.args.store.now) c.in-Ok.ensures.gives

pub returns-in-Err-Failed-clause-fetches : goal.returns-in-Err-Failed-clause-fetches
returns-in-Err-Failed-clause-fetches g c =
    failed c.in-Err-Failed.field-0 c.args.name.now c.args.limit (g.F.Store.seen c.args.store.now) c.in-Err-Failed.field-0-is c.in-Err-Failed.ensures.gives

pub returns-in-Ok-clause-asked : goal.returns-in-Ok-clause-asked
returns-in-Ok-clause-asked g c =
    asked_one c.args.name.now c.args.limit (g.F.Store.seen c.args.store.now) (g.F.Store.seen c.fetch_file.new.store) c.fetch_file.ensures.asked c.fetch_file.ensures.limited

pub returns-in-Err-Failed-clause-asked : goal.returns-in-Err-Failed-clause-asked
returns-in-Err-Failed-clause-asked g c =
    asked_one c.args.name.now c.args.limit (g.F.Store.seen c.args.store.now) (g.F.Store.seen c.fetch_file.new.store) c.fetch_file.ensures.asked c.fetch_file.ensures.limited

pub returns-in-Err-Memory-clause-asked : goal.returns-in-Err-Memory-clause-asked
returns-in-Err-Memory-clause-asked g c =
    asked_one c.args.name.now c.args.limit (g.F.Store.seen c.args.store.now) (g.F.Store.seen c.fetch_file.new.store) c.fetch_file.ensures.asked c.fetch_file.ensures.limited

pub returns-in-Err-Failed-clause-stores : goal.returns-in-Err-Failed-clause-stores
returns-in-Err-Failed-clause-stores g c = faults_by Fetched _ _ c.in-Err-Failed.field-0 Failed c.in-Err-Failed.field-0-is c.in-Err-Failed.ensures.faults

pub returns-in-Err-Memory-clause-stores : goal.returns-in-Err-Memory-clause-stores
returns-in-Err-Memory-clause-stores g c = faults_by Fetched _ _ c.in-Err-Memory.field-0 Memory c.in-Err-Memory.field-0-is c.in-Err-Memory.ensures.faults
