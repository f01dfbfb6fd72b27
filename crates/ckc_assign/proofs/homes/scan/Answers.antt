use Rattle.std.proofs.Common.{◌≡◌, length, refl, subst, arith}
use Rattle.std.proofs.lemmas.List.{get_or-replicate}
use Rattle.ckc_assign.specs.code.Homes.{HasGiven}
use Rattle.ckc_assign.proofs.Scanned.{scan_first, lie_apart}
use Rattle.ckc_assign.proofs.Fair.{has_given_none, has_given_more, begun_at, all_fair}
use Rattle.ckc_assign.proofs.homes.scan.Goals as goal

pub loop-start-init : goal.loop-start-init
loop-start-init c = has_given_none c.args.ranges.now c.args.order.now _ c.args.homes.now
    (scan_first c.args.ranges.now _ c.args.homes.now c.requires.few refl (λ h l. (let e = get_or-replicate 16 h (length c.args.ranges.now) 0 l in omega (arith, e))) c.requires.first)
    (λ h l. (let e = get_or-replicate 16 h (length c.args.ranges.now) 0 l in omega (arith, e)))

pub loop-start-preserved : goal.loop-start-preserved
loop-start-preserved c =
    has_given_more c.args.ranges.now c.args.order.now c.loop-start.start-index _ c.loop-start.holders c.place_one.new.holders c.loop-start.homes c.place_one.new.homes
    c.requires.order c.loop-start-test.true refl c.loop-start.invariant c.place_one.ensures.scan c.place_one.ensures.given

pub returns-clause-apart : goal.returns-clause-apart
returns-clause-apart c = lie_apart c.args.ranges.now c.loop-start.holders c.loop-start.homes c.loop-start.invariant.scan

pub returns-clause-fair : goal.returns-clause-fair
returns-clause-fair c =
    all_fair c.args.ranges.now c.args.order.now c.loop-start.holders c.loop-start.homes c.requires.order
    (subst (λ n. HasGiven c.args.ranges.now c.args.order.now n c.loop-start.holders c.loop-start.homes)
    (let n : c.loop-start.start-index ≡ length c.args.order.now = omega arith in n) c.loop-start.invariant)

pub place_one-requires-clause-begun : goal.place_one-requires-clause-begun
place_one-requires-clause-begun c =
    begun_at c.args.ranges.now c.args.order.now c.loop-start.start-index _ c.loop-start.holders c.loop-start.homes c.requires.order c.loop-start-test.true refl c.loop-start.invariant
