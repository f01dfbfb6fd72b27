use Rattle.std.proofs.Common.{map}
use Rattle.std.specs.List.{range_with_len}
use Rattle.ckc_asm_listing.specs.Listing.{data_line}
use Rattle.ckc_asm_listing.specs.code.Putting.{HasPut}
use Rattle.ckc_asm_listing.proofs.lister.put_data.Given as goal

abbrev pub invariant-loop-k : goal.invariant-loop-k
invariant-loop-k g l = HasPut (map (data_line l.bytes) (range_with_len 0 l.k))
    (g.O.Sink.seen l.initial.out)
    (g.O.Sink.seen l.out)
