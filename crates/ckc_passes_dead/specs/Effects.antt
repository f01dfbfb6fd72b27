-- The operations of a program that do more than write a register.
use Rattle.std.specs.Prelude.{Bool, List, map, filter}
use Rattle.std.specs.Option.{is_none}
use Rattle.ckc_tac.specs.declared.code.Tac.{Tac}
use Rattle.ckc_tac.specs.declared.code.TacFunc.{TacFunc}
use Rattle.ckc_tac.specs.declared.code.TacBlock.{TacBlock}
use Rattle.ckc_tac.specs.declared.code.TacOp.{TacOp}
use Rattle.ckc_passes_dead.specs.Dead.{plain_target}

-- an operation that reads or writes the memory, checks, calls, gets, puts or allocates
abbrev pub has_effect : TacOp → Bool
has_effect op = is_none (plain_target op)

abbrev pub effects_in_block : TacBlock → List TacOp
effects_in_block block = filter has_effect block.ops

abbrev pub effects_in_function : TacFunc → List (List TacOp)
effects_in_function f = map effects_in_block f.blocks

-- those of each block of each function, in order
abbrev pub effects_of : Tac → List (List (List TacOp))
effects_of p = map effects_in_function p.funcs
