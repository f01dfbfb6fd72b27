use Rattle.std.proofs.Common.{◌≡◌, ◌+◌, drop}
use Rattle.std.specs.Prelude.{true}
use Rattle.ckc_core.specs.Code.{code_of}
use Rattle.ckc_lower.specs.code.Built.{block_count}
use Rattle.ckc_lower.proofs.blocks.+count_blocks.Given as goal

abbrev pub decreases-count_blocks : goal.decreases-count_blocks
decreases-count_blocks l = goal.size-count_blocks l

abbrev pub invariant-loop-s : goal.invariant-loop-s
invariant-loop-s l = l.count + block_count l.fresh true (code_of (drop l.s-index l.stmts)) ≡ block_count l.is_fresh true (code_of l.stmts)
