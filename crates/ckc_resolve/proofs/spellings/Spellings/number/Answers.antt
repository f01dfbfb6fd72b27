use Rattle.std.proofs.Common.{arith}
use Rattle.ckc_resolve.proofs.Tables.{number_at, number_behind}
use Rattle.ckc_resolve.proofs.spellings.Spellings.number.Goals as goal

pub returns-in-Some : goal.returns-in-Some
returns-in-Some c = let e = number_at c.as_str.result.now c.self.inside.set.keys c.in-Some.n in grind (arith)

pub returns-in-None : goal.returns-in-None
returns-in-None c = let e = number_behind c.as_str.result.now c.self.inside.set.keys in grind (arith)
