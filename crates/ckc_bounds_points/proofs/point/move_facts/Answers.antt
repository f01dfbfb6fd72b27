use Rattle.std.proofs.Common.{sym, w64, SFits, rules}
use Rattle.std.proofs.lemmas.Int.{to_z-of_z}
use Rattle.ckc_bounds_points.proofs.Smalls.{kept_small}
use Rattle.ckc_bounds_points.proofs.point.move_facts.Goals as goal

pub shift-requires : goal.shift-requires
shift-requires c =
    let fits : SFits w64 c.args.f.add = search rules in
    kept_small c.args.x c.args.f.add _ c.args.facts.now.list c.drop_large.new.facts.list c.drop_large.ensures.list (sym (to_z-of_z w64 c.args.f.add fits))
