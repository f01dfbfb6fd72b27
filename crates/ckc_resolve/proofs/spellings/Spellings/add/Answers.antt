use Rattle.std.proofs.Common.{arith}
use Rattle.ckc_resolve.proofs.Tables.{add_bytes}
use Rattle.ckc_resolve.proofs.spellings.Spellings.add.Goals as goal

pub returns-clause-added : goal.returns-clause-added
returns-clause-added c = let e = add_bytes c.self.inside.set.keys c.as_str.result in grind (arith)
