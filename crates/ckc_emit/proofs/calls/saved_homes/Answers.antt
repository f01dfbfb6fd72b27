use Rattle.std.proofs.Common.{refl}
use Rattle.ckc_emit.proofs.Looping.{saved_turn}
use Rattle.ckc_emit.proofs.calls.saved_homes.Goals as goal

pub loop-r-preserved : goal.loop-r-preserved
loop-r-preserved c = λ k h.
    saved_turn k c.args.homes.now c.args.args.now c.loop-r.r-index _ _ c.place_in.result _ _ _ c.loop-r-test.true refl (c.requires.within c.loop-r.r-index _ c.loop-r-test.true)
    c.place_in.ensures.is (c.mark.ensures k h) (c.loop-r.invariant k h)
