use Rattle.ckc_cli_calls.proofs.Fetched.{given}
use Rattle.ckc_cli_calls.proofs.files.fetch_file.Goals as goal

pub returns-clause-gives : goal.returns-clause-gives
returns-clause-gives g c =
    let f = c.fetch.ensures in
    given c.fetch.result c.args.name.now c.args.limit (g.F.Store.seen c.args.store.now) f.within f.told f.lacks
