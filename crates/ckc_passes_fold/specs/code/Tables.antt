-- The numbers that registers are known to have, in a table, and what the code makes of operations by it.
use Rattle.std.specs.Prelude.{ℕ, List, [], ◌∷◌, get_or, map, replicate, Option, Some, None}
use Rattle.ckc_base.specs.Words.{applied}
use Rattle.ckc_base.specs.Products.{high_product}
use Rattle.ckc_tac.specs.declared.code.TacFunc.{TacFunc}
use Rattle.ckc_tac.specs.declared.code.TacBlock.{TacBlock}
use Rattle.ckc_tac.specs.declared.code.Operand.{Operand}
use Rattle.ckc_tac.specs.declared.code.Operand.TheVariants.{Register, Number}
use Rattle.ckc_tac.specs.declared.code.TacOp.{TacOp}
use Rattle.ckc_tac.specs.declared.code.TacOp.TheVariants.{Const, Copy, Bin, High}
use Rattle.ckc_flow.specs.Live.{target_of}
use Rattle.ckc_passes.specs.Values.{computed}
use Rattle.ckc_passes.specs.code.Forward.{entered}
use Rattle.ckc_passes_fold.specs.Folded.{const_or}

abbrev pub number_of : List (Option ℕ) → Operand → Option ℕ
number_of known (Register r) = get_or known r None
number_of known (Number n) = Some n

-- the number that an operation gives its target
abbrev pub number_given : List (Option ℕ) → TacOp → Option ℕ
number_given known (Const t n) = Some n
number_given known (Copy t a) = get_or known a None
number_given known (Bin op t a b) = computed (applied op) (number_of known a) (number_of known b)
number_given known (High is_signed t a b) = computed (high_product is_signed) (number_of known a) (number_of known b)
number_given known op = None

abbrev pub entry : ℕ → List (Option ℕ) → TacOp → Option ℕ
entry i known op = number_given known op

-- what is put for an operation that gives this number
abbrev pub put_for : Option ℕ → TacOp → TacOp
put_for number (Bin op t a b) = const_or number t (Bin op t a b)
put_for number (High is_signed t a b) = const_or number t (High is_signed t a b)
put_for number op = op

abbrev pub ops_with : List (Option ℕ) → List TacOp → List TacOp
ops_with known [] = []
ops_with known (op ∷ ops) = put_for (number_given known op) op ∷ ops_with (entered (target_of op) (number_given known op) known) ops

abbrev pub block_with : List (Option ℕ) → TacBlock → TacBlock
block_with known block = record { ops = ops_with known block.ops; end = block.end }

abbrev pub function_with : TacFunc → TacFunc
function_with f = record f { blocks = map (block_with (replicate f.regs None)) f.blocks }
