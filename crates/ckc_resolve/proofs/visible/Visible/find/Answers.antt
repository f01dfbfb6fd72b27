use Rattle.std.proofs.Common.{arith}
use Rattle.ckc_resolve.proofs.Indexing.{within_slots, found_slot, found_nowhere}
use Rattle.ckc_resolve.proofs.visible.Visible.find.Goals as goal

pub index-requires : goal.index-requires
index-requires c =
    let within = within_slots c.args.self.now c.self.inside.slots.items c.self.view_is c.args.s.now c.in-Some.place c.in-Some.ensures in
    omega (arith, within, c.self.inside.slots.ok.0)

pub returns-in-Some : goal.returns-in-Some
returns-in-Some c = found_slot c.args.self.now c.self.inside.slots.items c.self.view_is c.args.s.now c.in-Some.place c.in-Some.ensures c.index.result.now c.index.ensures

pub returns-in-None : goal.returns-in-None
returns-in-None c = found_nowhere c.args.self.now c.self.inside.slots.items c.self.view_is c.args.s.now c.in-None.ensures
