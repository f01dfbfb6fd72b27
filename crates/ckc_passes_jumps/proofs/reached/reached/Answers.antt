use Rattle.std.proofs.Common.{◌<◌, length, refl, arith}
use Rattle.std.proofs.lemmas.Option.{slice_get_read}
use Rattle.ckc_passes_jumps.proofs.Marking.{search_first, in_order, search_next, search_ended}
use Rattle.ckc_passes_jumps.proofs.reached.reached.Goals as goal

pub order-init : goal.order-init
order-init c = record {
  right = c.requires;
  within = omega arith;
  search = search_first c.args.blocks.now c.in_ok-marks.marks.items c.put.new.marks.items c.new-order.result.items c.put.new.order.items
      c.in_ok-marks.ensures c.new-order.ensures.items c.in_ok-put.ensures;
}

pub pass-requires-clause-there : goal.pass-requires-clause-there
pass-requires-clause-there c =
    let order = c.order.order.items in
    let i = c.order.i in
    in_order c.args.blocks.now i c.index.result.now c.order.marks.items order c.order.invariant.search
    (slice_get_read order (length order) i c.index.result.now refl (omega (arith, c.order-test.true, c.len.ensures)) c.index.ensures)

pub order-preserved : goal.order-preserved
order-preserved c =
    let order = c.order.order.items in
    let i = c.order.i in
    let within : i < length order = omega (arith, c.order-test.true, c.len.ensures) in
    let put = c.in_ok-pass.ensures.put in
    let next = search_next c.args.blocks.now i c.index.result.now c.order.marks.items order c.pass.new.marks.items c.pass.new.order.items put.0 c.order.invariant.search
    within (slice_get_read order (length order) i c.index.result.now refl within c.index.ensures) put.1 put.2 in
    record {
      right = c.in_ok-pass.ensures.right;
      within = next.0;
      search = next.1;
    }

pub returns-clause-exact : goal.returns-clause-exact
returns-clause-exact c =
    search_ended c.args.blocks.now c.order.i c.order.marks.items c.order.order.items c.order.invariant.search (omega (arith, c.order-test.false, c.len.ensures))
