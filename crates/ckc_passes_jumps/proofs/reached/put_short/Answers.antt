use Rattle.ckc_passes_jumps.proofs.Marking.{put_for}
use Rattle.ckc_passes_jumps.proofs.reached.put_short.Goals as goal

pub returns-clause-put : goal.returns-clause-put
returns-clause-put c =
    put_for c.args.blocks.now c.args.marks.now.items c.args.order.now.items c.put.new.marks.items c.put.new.order.items c.args.to c.in_ok-b.b c.in_ok-b.ensures.short c.in_ok-put.ensures
