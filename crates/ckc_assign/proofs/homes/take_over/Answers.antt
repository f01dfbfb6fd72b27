use Rattle.std.proofs.Common.{◌<◌, ℕ, List, sym, ap, subst, ◌∙◌, arith}
use Rattle.std.specs.Prelude.{set}
use Rattle.ckc_frame.specs.declared.code.Place.{Place}
use Rattle.ckc_frame.specs.declared.code.Place.TheVariants.{Reg, Slot}
use Rattle.ckc_assign.specs.code.Homes.{holder_of, IsGiven, IsScan}
use Rattle.ckc_assign.specs.code.Ranges.{range_of}
use Rattle.ckc_assign.proofs.Fair.{is_register, given_none}
use Rattle.ckc_assign.proofs.Given.{taken_scans, taken_gives}
use Rattle.ckc_assign.proofs.homes.take_over.Goals as goal

pub put_out-requires-clause-there : goal.put_out-requires-clause-there
put_out-requires-clause-there c =
    let ranges = c.args.ranges.now in
    let s = c.requires.scan in
    let late = c.requires.late c.args.r (s.needed c.args.r c.args.r c.requires.there c.requires.slot) in
    let there = is_register ranges (holder_of c.args.holders.now c.in-Some.h) (range_of ranges c.args.r).first late (c.requires.busy c.in-Some.h c.in-Some.ensures) in
    omega (arith, there, c.holder_at-other.ensures, s.long)

pub returns-in-Some-clause-scan : goal.returns-in-Some-clause-scan
returns-in-Some-clause-scan c =
    let ranges = c.args.ranges.now in
    let r = c.args.r in
    let h = c.in-Some.h in
    let s = c.requires.scan in
    let low : h < 16 = (let there = c.in-Some.ensures in let wide = s.wide in omega (arith, there, wide)) in
    let made = taken_scans ranges c.args.holders.now c.args.homes.now s c.requires.late r h c.requires.there low c.requires.slot c.requires.begun c.requires.busy in
    let homes_are = c.give.ensures.homes ∙ ap (λ (l : List Place). set l r (Reg h)) (c.put_out.ensures ∙ ap (λ (q : ℕ). set c.args.homes.now q (Slot q)) c.holder_at-other.ensures) in
    subst (λ (l : List ℕ). IsScan ranges l c.give.new.homes) (sym c.give.ensures.holders)
    (subst (λ (l : List Place). IsScan ranges (set c.args.holders.now h r) l) (sym homes_are) made)

pub returns-in-Some-clause-given : goal.returns-in-Some-clause-given
returns-in-Some-clause-given c =
    let ranges = c.args.ranges.now in
    let r = c.args.r in
    let h = c.in-Some.h in
    let s = c.requires.scan in
    let low : h < 16 = (let there = c.in-Some.ensures in let wide = s.wide in omega (arith, there, wide)) in
    let made = taken_gives ranges c.args.holders.now c.args.homes.now s c.requires.late r h c.requires.there low c.requires.slot c.requires.begun c.requires.busy in
    let homes_are = c.give.ensures.homes ∙ ap (λ (l : List Place). set l r (Reg h)) (c.put_out.ensures ∙ ap (λ (q : ℕ). set c.args.homes.now q (Slot q)) c.holder_at-other.ensures) in
    subst (λ (l : List ℕ). IsGiven ranges r c.args.holders.now c.args.homes.now l c.give.new.homes) (sym c.give.ensures.holders)
    (subst (λ (l : List Place). IsGiven ranges r c.args.holders.now c.args.homes.now (set c.args.holders.now h r) l) (sym homes_are) made)

pub returns-in-None-clause-given : goal.returns-in-None-clause-given
returns-in-None-clause-given c =
    given_none c.args.ranges.now c.args.holders.now c.args.homes.now c.args.r c.requires.scan c.requires.late c.requires.there c.requires.slot c.requires.begun c.requires.busy
