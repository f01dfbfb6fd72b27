use Rattle.ckc_passes_known.specs.code.Edges.{AreFrom}
use Rattle.ckc_passes_known.proofs.edges.edges_of.Given as goal

abbrev pub invariant-loop-b : goal.invariant-loop-b
invariant-loop-b l = AreFrom l.blocks l.b l.first.items l.all.items
