-- Passes that put one operation for each and one end for each, by the operations before it in its block.
use Rattle.std.specs.Prelude.{◌≡◌, List, [], ◌∷◌, map}
use Rattle.ckc_tac.specs.declared.code.Tac.{Tac}
use Rattle.ckc_tac.specs.declared.code.TacFunc.{TacFunc}
use Rattle.ckc_tac.specs.declared.code.TacBlock.{TacBlock}
use Rattle.ckc_tac.specs.declared.code.TacOp.{TacOp}
use Rattle.ckc_tac.specs.declared.code.TacEnd.{TacEnd}
use Rattle.ckc_passes.specs.Passes.{Pass}

-- What is put for an operation, and for an end, after operations that are given last first.
pub record Rewrite : Type 0 where
  pub op : List TacOp → TacOp → TacOp
  pub end : List TacOp → TacEnd → TacEnd

-- the operations that come next, if some are done
abbrev pub ops_by : Rewrite → (done ops : List TacOp) → List TacOp
ops_by w done [] = []
ops_by w done (op ∷ ops) = w.op done op ∷ ops_by w (op ∷ done) ops

-- the operations done, last first, when those that come next are done too
abbrev pub all_done : (done ops : List TacOp) → List TacOp
all_done done [] = done
all_done done (op ∷ ops) = all_done (op ∷ done) ops

abbrev pub block_by : Rewrite → TacBlock → TacBlock
block_by w block = record { ops = ops_by w [] block.ops; end = w.end (all_done [] block.ops) block.end }

abbrev pub function_by : Rewrite → TacFunc → TacFunc
function_by w f = record f { blocks = map (block_by w) f.blocks }

abbrev pub program_by : Rewrite → Tac → Tac
program_by w p = record p { funcs = map (function_by w) p.funcs }

-- such a pass drops nothing
abbrev pub pass_by : Rewrite → Pass
pass_by w = record {
  Keeps = λ blocks done ops end op low. low ≡ w.op done op;
  Drops = λ blocks done ops end op. ⊥;
  Ends = λ blocks done end low_end. low_end ≡ w.end done end;
}
