use Rattle.std.proofs.Common.{sym}
use Rattle.ckc_emit.proofs.PlaceAt.{place_read}
use Rattle.ckc_emit.proofs.places.place_in.Goals as goal

pub returns-clause-is : goal.returns-clause-is
returns-clause-is c = sym (place_read c.args.homes.now c.args.r _ c.requires.within)
