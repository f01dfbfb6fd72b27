-- The table of numbers has those of the values of registers.
use Rattle.std.proofs.Common.{◌≡◌, ◌⊎◌, inl, inr, ⊎_elim, ℕ, suc, ◌+◌, ◌<◌, if◌then◌else◌, Bool, true, false, List, [], ◌∷◌, length, get_or, map, replicate, Option, None, Some, refl, sym, ap, subst, ◌∙◌}
use Rattle.std.specs.Prelude.{All}
use Rattle.std.proofs.lemmas.List.{length-replicate}
use Rattle.std.proofs.lemmas.List.Elements.{All-head, All-tail, All-weaker}
use Rattle.ckc_base.specs.Words.{applied}
use Rattle.ckc_base.specs.Products.{high_product}
use Rattle.ckc_tac.specs.declared.code.Tac.{Tac}
use Rattle.ckc_tac.specs.declared.code.TacFunc.{TacFunc}
use Rattle.ckc_tac.specs.declared.code.TacBlock.{TacBlock}
use Rattle.ckc_tac.specs.declared.code.Operand.{Operand}
use Rattle.ckc_tac.specs.declared.code.Operand.TheVariants.{Register, Number}
use Rattle.ckc_tac.specs.declared.code.TacOp.{TacOp}
use Rattle.ckc_tac.specs.declared.code.TacOp.TheVariants.{Const, Copy, Bin, High, Load, Store, Check, Call, Get, Put, Alloc}
use Rattle.ckc_tac.specs.WellFormed.{IsFunctionOver, IsBlockOver, IsOpOver}
use Rattle.ckc_flow.specs.Live.{target_of}
use Rattle.ckc_passes.specs.Values.{Entry, Combined, Upper, number_in, known_or, computed, term_of, operand_after, given, is_target, value_after}
use Rattle.ckc_passes.specs.Rewrites.{ops_by, block_by, function_by}
use Rattle.ckc_passes.specs.code.Forward.{entered, filled, emptied}
use Rattle.ckc_passes.proofs.Valued.{Hit, hit, miss, hits, target_over, after_target, after_other, known_number, entry_same, entry_other}
use Rattle.ckc_passes.proofs.Emptied.{empty_at, length-entered, empty_again}
use Rattle.ckc_passes_fold.specs.Folded.{const_or, folded_op, folds}
use Rattle.ckc_passes_fold.specs.code.Tables.{number_of, number_given, entry, put_for, ops_with, block_with, function_with}

abbrev pub IsTable : List TacOp → List (Option ℕ) → Type 0
IsTable before known = (r : ℕ) → get_or known r None ≡ number_in (value_after before r)

abbrev Within : ℕ → TacOp → Type 0
Within n op = (t : ℕ) → target_of op ≡ Some t → t < n

module _ (before : List TacOp) (known : List (Option ℕ)) (table : IsTable before known) where
  operand_same : (a : Operand) → number_of known a ≡ number_in (operand_after before a)
  operand_same (Register r) = table r
  operand_same (Number n) = refl

  both_same : (f : ℕ → ℕ → ℕ) (a b : Operand)
      → computed f (number_of known a) (number_of known b) ≡ computed f (number_in (operand_after before a)) (number_in (operand_after before b))
  both_same f a b = ap (λ o. computed f o (number_of known b)) (operand_same a) ∙ ap (computed f (number_in (operand_after before a))) (operand_same b)

  given_same : (op : TacOp) → number_given known op ≡ number_in (given (value_after before) (length before) op)
  given_same (Const t n) = refl
  given_same (Copy t a) = table a
  given_same (Bin op t a b) =
      both_same (applied op) a b
      ∙ sym (known_number (computed (applied op) (number_in (operand_after before a)) (number_in (operand_after before b))) (Combined op (operand_after before a) (operand_after before b)) refl)
  given_same (High is_signed t a b) =
      both_same (high_product is_signed) a b
      ∙ sym (known_number (computed (high_product is_signed) (number_in (operand_after before a)) (number_in (operand_after before b))) (Upper is_signed (operand_after before a) (operand_after before b)) refl)
  given_same op = refl

  target_same : (op : TacOp) (t : ℕ) → target_of op ≡ Some t → number_given known op ≡ number_in (value_after (op ∷ before) t)
  target_same op t e = given_same op ∙ ap number_in (sym (after_target before op t e))

  next_table : (op : TacOp) → Within (length known) op → IsTable (op ∷ before) (entered (target_of op) (number_given known op) known)
  next_table op within r = by (hits (target_of op) r)
    where
      by : Hit (target_of op) r → get_or (entered (target_of op) (number_given known op) known) r None ≡ number_in (value_after (op ∷ before) r)
      by (hit e) = entry_same (target_of op) known r (number_given known op) None e within ∙ target_same op r e
      by (miss e apart) = entry_other (target_of op) known r (number_given known op) None apart ∙ table r ∙ ap number_in (sym (after_other before op r e))

  op_same : (op : TacOp) → put_for (number_given known op) op ≡ folded_op before op
  op_same (Bin op t a b) = ap (λ o. const_or o t (Bin op t a b)) (target_same (Bin op t a b) t refl)
  op_same (High is_signed t a b) = ap (λ o. const_or o t (High is_signed t a b)) (target_same (High is_signed t a b) t refl)
  op_same op = refl

ops_same : (before ops : List TacOp) (known : List (Option ℕ)) (n : ℕ) → length known ≡ n → IsTable before known → All (Within n) ops → ops_with known ops ≡ ops_by folds before ops
ops_same before [] known n long table over = refl
ops_same before (op ∷ ops) known n long table over =
    let here : Within (length known) op = subst (λ m. Within m op) (sym long) (All-head (Within n) op ops over) in
    let t = target_of op in
    let v = number_given known op in
    ap (λ o. o ∷ ops_with (entered t v known) ops) (op_same before known table op)
    ∙ ap (λ l. folded_op before op ∷ l)
    (ops_same (op ∷ before) ops (entered t v known) n (length-entered t v known ∙ long) (next_table before known table op here) (All-tail (Within n) op ops over))

module _ (functions : List TacFunc) where
  within_all : (regs : ℕ) (ops : List TacOp) → All (IsOpOver functions regs) ops → All (Within regs) ops
  within_all regs ops over = All-weaker (IsOpOver functions regs) (Within regs) (λ op h t e. target_over functions regs op t h e) ops over

  block_same : (count regs : ℕ) (block : TacBlock) → IsBlockOver functions count regs block → block_with (replicate regs None) block ≡ block_by folds block
  block_same count regs block over =
      ap (λ (l : List TacOp). let b : TacBlock = record { ops = l; end = block.end } in b)
      (ops_same [] block.ops (replicate regs None) regs (length-replicate regs None) (λ r. empty_at regs r None) (within_all regs block.ops over.0))

  blocks_same : (count regs : ℕ) (blocks : List TacBlock) → All (IsBlockOver functions count regs) blocks → map (block_with (replicate regs None)) blocks ≡ map (block_by folds) blocks
  blocks_same count regs [] over = refl
  blocks_same count regs (block ∷ blocks) over =
      ap (λ b. b ∷ map (block_with (replicate regs None)) blocks) (block_same count regs block (All-head (IsBlockOver functions count regs) block blocks over))
      ∙ ap (λ l. block_by folds block ∷ l) (blocks_same count regs blocks (All-tail (IsBlockOver functions count regs) block blocks over))

  function_same : (f : TacFunc) → IsFunctionOver functions f → function_with f ≡ function_by folds f
  function_same f over = ap (λ (l : List TacBlock). let g : TacFunc = record f { blocks = l } in g) (blocks_same (length f.blocks) f.regs f.blocks over.2)

  pub functions_same : (fs : List TacFunc) → All (IsFunctionOver functions) fs → map function_with fs ≡ map (function_by folds) fs
  functions_same [] over = refl
  functions_same (f ∷ fs) over =
      ap (λ g. g ∷ map function_with fs) (function_same f (All-head (IsFunctionOver functions) f fs over))
      ∙ ap (λ l. function_by folds f ∷ l) (functions_same fs (All-tail (IsFunctionOver functions) f fs over))

-- ---- the table is as empty after a block as before it

pub kept_empty : (known : List (Option ℕ)) (ops : List TacOp) → known ≡ replicate (length known) None → emptied None ops (filled entry 0 ops known) ≡ known
kept_empty known ops e =
    ap (λ (l : List (Option ℕ)). emptied None ops (filled entry 0 ops l)) e ∙ empty_again None entry (length known) ops ∙ sym e
