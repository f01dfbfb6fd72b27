use Rattle.std.proofs.Common.{◌<◌, ℕ, List, refl, sym, subst, arith}
use Rattle.std.specs.Prelude.{set}
use Rattle.ckc_frame.specs.declared.code.Place.{Place}
use Rattle.ckc_assign.specs.code.Homes.{holder_of, AreBusy, IsGiven, IsScan}
use Rattle.ckc_assign.specs.code.Ranges.{range_of}
use Rattle.ckc_assign.proofs.Given.{free_scans, free_gives}
use Rattle.ckc_assign.proofs.homes.take.Goals as goal

pub take_over-requires-clause-busy : goal.take_over-requires-clause-busy
take_over-requires-clause-busy c = subst (λ (n : ℕ). AreBusy c.args.ranges.now c.args.holders.now n) c.first_of-place.ensures (c.in-None.ensures.busy refl)

pub returns-in-Some-clause-scan : goal.returns-in-Some-clause-scan
returns-in-Some-clause-scan c =
    let ranges = c.args.ranges.now in
    let r = c.args.r in
    let h = c.in-Some.h in
    let s = c.requires.scan in
    let low : h < 16 = (let there = c.in-Some.ensures.free.0 in let wide = s.wide in omega (arith, there, wide)) in
    let free = subst (λ (n : ℕ). (range_of ranges (holder_of c.args.holders.now h)).last < n) c.first_of-place.ensures c.in-Some.ensures.free.1 in
    let made = free_scans ranges c.args.holders.now c.args.homes.now s c.requires.late r h c.requires.there low c.requires.slot c.requires.begun free in
    subst (λ (l : List ℕ). IsScan ranges l c.give.new.homes) (sym c.give.ensures.holders)
    (subst (λ (l : List Place). IsScan ranges (set c.args.holders.now h r) l) (sym c.give.ensures.homes) made)

pub returns-in-Some-clause-given : goal.returns-in-Some-clause-given
returns-in-Some-clause-given c =
    let ranges = c.args.ranges.now in
    let r = c.args.r in
    let h = c.in-Some.h in
    let s = c.requires.scan in
    let low : h < 16 = (let there = c.in-Some.ensures.free.0 in let wide = s.wide in omega (arith, there, wide)) in
    let free = subst (λ (n : ℕ). (range_of ranges (holder_of c.args.holders.now h)).last < n) c.first_of-place.ensures c.in-Some.ensures.free.1 in
    let made = free_gives ranges c.args.holders.now c.args.homes.now s c.requires.late r h c.requires.there low c.requires.slot c.requires.begun free in
    subst (λ (l : List ℕ). IsGiven ranges r c.args.holders.now c.args.homes.now l c.give.new.homes) (sym c.give.ensures.holders)
    (subst (λ (l : List Place). IsGiven ranges r c.args.holders.now c.args.homes.now (set c.args.holders.now h r) l) (sym c.give.ensures.homes) made)
