use Rattle.std.proofs.Common.{sym, subst}
use Rattle.ckc_tac.specs.declared.code.TacEnd.{TacEnd}
use Rattle.ckc_tac.specs.declared.code.TacEnd.TheVariants.{Branch}
use Rattle.ckc_passes_jumps.specs.code.Reached.{IsPutFor}
use Rattle.ckc_passes_jumps.proofs.Marking.{put_both}
use Rattle.ckc_passes_jumps.proofs.reached.put_end.Goals as goal

pub returns-in_ok-put_short-in-Branch-2-clause-put : goal.returns-in_ok-put_short-in-Branch-2-clause-put
returns-in_ok-put_short-in-Branch-2-clause-put c =
    let b = c.in-Branch in
    subst (λ (e : TacEnd). IsPutFor c.args.blocks.now e c.args.marks.now.items c.args.order.now.items c.put_short-in-Branch-2.new.marks.items c.put_short-in-Branch-2.new.order.items)
    (sym b.is)
    (put_both c.args.blocks.now (Branch b.field-0 b.field-1 b.field-2 b.one b.two) b.one b.two
    c.args.marks.now.items c.args.order.now.items c.put_short-in-Branch.new.marks.items c.put_short-in-Branch.new.order.items
    c.put_short-in-Branch-2.new.marks.items c.put_short-in-Branch-2.new.order.items
    (λ v l. l) (λ v l. l) c.in_ok-put_short-in-Branch.ensures.put c.in_ok-put_short-in-Branch-2.ensures.put)
