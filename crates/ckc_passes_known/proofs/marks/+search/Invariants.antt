use Rattle.std.proofs.Common.{◌+◌, ◌≤◌, get_or, length}
use Rattle.ckc_passes_known.specs.code.Marks.{IsAsking, IsSearch, rank}
use Rattle.ckc_passes_known.proofs.Ways.{AllGo}
use Rattle.ckc_passes_known.proofs.marks.+search.Given as goal

abbrev pub decreases-is_known : goal.decreases-is_known
decreases-is_known l = rank l.question + 5

abbrev pub decreases-search : goal.decreases-search
decreases-search l = rank l.question + 4

abbrev pub decreases-ask : goal.decreases-ask
decreases-ask l = rank l.question + 3

abbrev pub decreases-way_back : goal.decreases-way_back
decreases-way_back l = rank l.question + 2

abbrev pub decreases-is_spared : goal.decreases-is_spared
decreases-is_spared l = rank l.question + 1

abbrev pub invariant-way_back-back : goal.invariant-way_back-back
invariant-way_back-back l = record {
  within : l.i ≤ length l.before;
  all : AllGo l.blocks l.question l.b l.before l.i;
}

abbrev pub decreases-way_back-back : goal.decreases-way_back-back
decreases-way_back-back l = l.i

abbrev pub invariant-search-loop-i : goal.invariant-search-loop-i
invariant-search-loop-i l = IsSearch l.blocks l.question l.b l.i l.marks l.order.items

abbrev pub invariant-ask-edges : goal.invariant-ask-edges
invariant-ask-edges l =
    IsAsking l.blocks l.edges.all.items l.question l.b (get_or l.edges.first.items l.b 0) l.e l.initial.marks l.initial.order.items l.marks l.order.items

abbrev pub decreases-ask-edges : goal.decreases-ask-edges
decreases-ask-edges l = l.e
