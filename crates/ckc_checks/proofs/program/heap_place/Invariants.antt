use Rattle.std.proofs.Common.{◌≡◌, drop, map}
use Rattle.ckc_source.specs.Blocks.{block_of, place_behind, first_place}
use Rattle.ckc_checks.proofs.program.heap_place.Given as goal

abbrev pub invariant-loop-o : goal.invariant-loop-o
invariant-loop-o l =
    place_behind l.place (map block_of (drop l.o-index l.objects)) ≡ place_behind first_place (map block_of l.objects)
