use Rattle.std.proofs.Common.{w64, SFits, rules}
use Rattle.std.proofs.lemmas.Int.{to_z-of_z}
use Rattle.ckc_bounds_known.proofs.Reaching.{chain_is_at}
use Rattle.ckc_bounds_known.proofs.shown.reaches.Goals as goal

pub returns : goal.returns
returns c =
    let fits : SFits w64 c.args.f.c = search rules in
    chain_is_at c.args.facts.now.vars c.args.facts.now.list c.args.f.x c.args.f.y c.args.f.c _ _ c.entails.ensures (to_z-of_z w64 c.args.f.c fits)
