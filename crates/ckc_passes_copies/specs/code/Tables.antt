-- The last writes of registers, in a table, and what the code makes of operations by it.
use Rattle.std.specs.Prelude.{ℕ, ◌+◌, List, [], ◌∷◌, get_or, map, replicate, Option, Some, None}
use Rattle.ckc_tac.specs.declared.code.TacFunc.{TacFunc}
use Rattle.ckc_tac.specs.declared.code.TacBlock.{TacBlock}
use Rattle.ckc_tac.specs.declared.code.TacOp.{TacOp}
use Rattle.ckc_flow.specs.Live.{target_of}
use Rattle.ckc_passes.specs.code.Forward.{entered, filled}
use Rattle.ckc_passes_copies.specs.declared.origins.Last.{Last}
use Rattle.ckc_passes_copies.specs.Origins.{Writes, copied_by}
use Rattle.ckc_passes_copies.specs.Copied.{copied_op, copied_end}

-- the entry of a register that is not written
abbrev pub none_yet : Last
none_yet = record { at = 0; copied = None }

abbrev pub last_in : List Last → ℕ → Last
last_in table r = get_or table r none_yet

abbrev pub writes_in : List Last → Writes
writes_in table = record { at = λ r. (last_in table r).at; copied = λ r. (last_in table r).copied }

-- the entry of the target of an operation
abbrev pub entry : ℕ → List Last → TacOp → Last
entry i table op = record { at = i + 1; copied = copied_by op }

abbrev pub ops_with : ℕ → List Last → List TacOp → List TacOp
ops_with i table [] = []
ops_with i table (op ∷ ops) = copied_op (writes_in table) op ∷ ops_with (i + 1) (entered (target_of op) (entry i table op) table) ops

abbrev pub block_with : List Last → TacBlock → TacBlock
block_with table block = record {
  ops = ops_with 0 table block.ops;
  end = copied_end (writes_in (filled entry 0 block.ops table)) block.end;
}

abbrev pub function_with : TacFunc → TacFunc
function_with f = record f { blocks = map (block_with (replicate f.regs none_yet)) f.blocks }
