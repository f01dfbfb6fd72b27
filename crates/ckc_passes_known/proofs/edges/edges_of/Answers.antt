use Rattle.std.proofs.Common.{length}
use Rattle.std.proofs.lemmas.Option.{slice_get_read}
use Rattle.std.proofs.Common.{refl}
use Rattle.ckc_passes_known.proofs.Added.{from_more}
use Rattle.ckc_passes_known.proofs.edges.edges_of.Goals as goal

pub loop-b-preserved : goal.loop-b-preserved
loop-b-preserved c =
    let blocks = c.args.blocks.now in
    from_more blocks c.loop-b.b c.index-blocks-b.result c.loop-b.first.items c.loop-b.all.items c.add_end.new.first.items c.add_end.new.all.items
    (slice_get_read blocks (length blocks) c.loop-b.b c.index-blocks-b.result refl c.loop-b-test.true c.index-blocks-b.is)
    c.in_ok-add_end.ensures c.loop-b.invariant
