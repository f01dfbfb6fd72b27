-- What becomes of a program if what computes a number gives the number.
use Rattle.std.specs.Prelude.{ℕ, List, ◌∷◌, Option, Some, None}
use Rattle.ckc_tac.specs.declared.code.Tac.{Tac}
use Rattle.ckc_tac.specs.declared.code.TacOp.{TacOp}
use Rattle.ckc_tac.specs.declared.code.TacOp.TheVariants.{Const, Bin, High}
use Rattle.ckc_passes.specs.Values.{number_in, value_after}
use Rattle.ckc_passes.specs.Rewrites.{Rewrite, program_by}

-- the Const of the number, or the operation if there is none
abbrev pub const_or : Option ℕ → ℕ → TacOp → TacOp
const_or (Some n) t op = Const t n
const_or None t op = op

-- A Bin or High whose target's value after it is a number becomes the Const of that target and number. The operations
-- before it in its block are given last first.
abbrev pub folded_op : List TacOp → TacOp → TacOp
folded_op before (Bin op t a b) = const_or (number_in (value_after (Bin op t a b ∷ before) t)) t (Bin op t a b)
folded_op before (High is_signed t a b) = const_or (number_in (value_after (High is_signed t a b ∷ before) t)) t (High is_signed t a b)
folded_op before op = op

abbrev pub folds : Rewrite
folds = record { op = folded_op; end = λ before end. end }

abbrev pub folded : Tac → Tac
folded p = program_by folds p
