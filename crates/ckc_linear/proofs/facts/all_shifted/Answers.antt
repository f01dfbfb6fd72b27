use Rattle.std.proofs.Common.{rules, arith, ap, pos, w64, SFits, length}
use Rattle.std.proofs.lemmas.Int.{to_z-of_z}
use Rattle.ckc_linear.proofs.Shifts.{shifted_next, shifted_more}
use Rattle.ckc_linear.proofs.facts.all_shifted.Goals as goal

pub shifted-requires : goal.shifted-requires
shifted-requires c =
    let fits : SFits w64 c.args.by.1 = search rules in
    let long = ap length c.into_vec-items.ensures in
    shifted_next c.args.by.0 c.args.by.1 _ (to_z-of_z w64 _ fits) c.args.list c.loop-f.f-items c.loop-f.f-index _ (omega (arith, long, ap length c.deref_mut-f-items.ensures.value)) c.loop-f.invariant c.requires

pub loop-f-preserved : goal.loop-f-preserved
loop-f-preserved c =
    let fits : SFits w64 c.args.by.1 = search rules in
    let long = ap length c.into_vec-items.ensures in
    shifted_more c.args.by.0 c.args.by.1 _ (to_z-of_z w64 _ fits) c.args.list c.loop-f.f-items c.loop-f.f-index (record { x = 0; y = 0; c = pos 0 }) (omega (arith, long, ap length c.deref_mut-f-items.ensures.value)) c.loop-f.invariant
    c.shifted.result (omega arith) c.shifted.ensures
