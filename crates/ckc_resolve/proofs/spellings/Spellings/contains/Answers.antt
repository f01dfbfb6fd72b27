use Rattle.std.proofs.Common.{arith}
use Rattle.ckc_resolve.proofs.Tables.{any_bytes}
use Rattle.ckc_resolve.proofs.spellings.Spellings.contains.Goals as goal

pub returns : goal.returns
returns c = let e = any_bytes c.args.s.now c.self.inside.set.keys in grind (arith)
