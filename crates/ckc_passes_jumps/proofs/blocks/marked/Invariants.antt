use Rattle.std.proofs.Common.{ℕ, List, length}
use Rattle.std.specs.Prelude.{All}
use Rattle.ckc_tac.specs.declared.code.TacFunc.{TacFunc}
use Rattle.ckc_tac.specs.WellFormed.{IsBlockOver}
use Rattle.ckc_passes_jumps.specs.code.Ways.{AreRight}
use Rattle.ckc_passes_jumps.specs.code.Left.{IsTaken}
use Rattle.ckc_passes_jumps.proofs.blocks.marked.Given as goal

abbrev pub invariant-loop-b : goal.invariant-loop-b
invariant-loop-b l = record {
  right : AreRight l.blocks l.ways.walks.items l.ways.ends.items;
  taken : (functions : List TacFunc) (regs : ℕ) → All (IsBlockOver functions (length l.blocks) regs) l.blocks → IsTaken l.blocks l.b l.left.items;
}
