use Rattle.std.proofs.Common.{List, Bool, sym, subst}
use Rattle.ckc_frame.specs.declared.code.Place.{Place}
use Rattle.ckc_assign.specs.declared.ranges.Range.{Range}
use Rattle.ckc_assign.specs.code.Assigned.{IsAssigned}
use Rattle.ckc_assign.specs.code.Ranges.{SeesAll}
use Rattle.ckc_assign.proofs.Assigned.{assigned, begin_late}
use Rattle.ckc_assign.proofs.program.function.Goals as goal

pub homes_of-requires-clause-late : goal.homes_of-requires-clause-late
homes_of-requires-clause-late c = begin_late c.args.f.now c.as_slice.result.now (subst (λ (l : List Range). SeesAll c.args.f.now l) (sym c.as_slice.ensures.value) c.in_ok-ranges.ensures)

pub returns : goal.returns
returns c =
    let f = c.args.f.now in
    let ranges = c.as_slice.result.now in
    let code = c.in_ok-code.code in
    let sees = subst (λ (l : List Range). SeesAll f l) (sym c.as_slice.ensures.value) c.in_ok-ranges.ensures in
    subst (λ (l : List Place). IsAssigned f (record { code = code; homes = l; kept = c.from_vec-2.result })) (sym c.from_vec.ensures)
    (subst (λ (l : List (List Bool)). IsAssigned f (record { code = code; homes = c.in_ok-homes.homes.items; kept = l })) (sym c.from_vec-2.ensures)
    (assigned f code ranges c.in_ok-homes.homes.items c.in_ok-kept.kept.items c.in_ok-code.ensures sees c.in_ok-homes.ensures.apart c.in_ok-homes.ensures.fair c.in_ok-kept.ensures))
