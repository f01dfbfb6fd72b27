use Rattle.std.proofs.Common.{◌≡◌, ◌++◌, map, drop}
use Rattle.ckc_source.specs.Blocks.{block_of, place_behind, first_place}
use Rattle.ckc_interp_blocks.specs.Held.{view}
use Rattle.ckc_interp_blocks.proofs.blocks.Blocks.new.Given as goal

-- the blocks so far and those of the objects that are left are all
abbrev pub invariant-loop-o : goal.invariant-loop-o
invariant-loop-o l = record {
  all : map view l.blocks.items ++ map block_of (drop l.o-index l.objects) ≡ map block_of l.objects;
  place : place_behind l.next (map block_of (drop l.o-index l.objects)) ≡ place_behind first_place (map block_of l.objects);
}
