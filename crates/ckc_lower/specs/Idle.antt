-- Blocks that only jump.
use Rattle.std.specs.Prelude.{ℕ, Bool, true, false, List, [], count_by, sum_by}
use Rattle.ckc_tac.specs.declared.code.TacOp.{TacOp}
use Rattle.ckc_tac.specs.declared.code.TacEnd.{TacEnd}
use Rattle.ckc_tac.specs.declared.code.TacEnd.TheVariants as ends
use Rattle.ckc_tac.specs.declared.code.TacBlock.{TacBlock}
use Rattle.ckc_tac.specs.declared.code.TacFunc.{TacFunc}
use Rattle.ckc_tac.specs.declared.code.Tac.{Tac}

abbrev pub jumps_alone : List TacOp → TacEnd → Bool
jumps_alone [] (ends.Jump to) = true
jumps_alone ops end = false

-- a block that has no operation, and whose end is a jump
abbrev pub only_jumps : TacBlock → Bool
only_jumps b = jumps_alone b.ops b.end

abbrev pub idle_blocks_in : TacFunc → ℕ
idle_blocks_in f = count_by only_jumps f.blocks

-- How many blocks of a program only jump. If there is none, no jump and no branch goes to one.
abbrev pub idle_blocks : Tac → ℕ
idle_blocks t = sum_by idle_blocks_in t.funcs
