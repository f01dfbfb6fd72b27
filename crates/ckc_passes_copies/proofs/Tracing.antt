-- The table has the last writes of registers.
use Rattle.std.proofs.Common.{◌≡◌, ℕ, suc, ◌+◌, ◌<◌, if◌then◌else◌, Bool, true, false, List, [], ◌∷◌, length, get_or, map, replicate, Option, None, Some, refl, sym, ap, subst, ◌∙◌, arith}
use Rattle.std.proofs.Math.Path.{fun_ext}
use Rattle.std.specs.Prelude.{All}
use Rattle.std.proofs.lemmas.List.{length-replicate}
use Rattle.std.proofs.lemmas.List.Elements.{All-head, All-tail, All-weaker}
use Rattle.ckc_tac.specs.declared.code.TacFunc.{TacFunc}
use Rattle.ckc_tac.specs.declared.code.TacBlock.{TacBlock}
use Rattle.ckc_tac.specs.declared.code.Operand.{Operand}
use Rattle.ckc_tac.specs.declared.code.TacOp.{TacOp}
use Rattle.ckc_tac.specs.declared.code.TacEnd.{TacEnd}
use Rattle.ckc_tac.specs.WellFormed.{IsFunctionOver, IsBlockOver, IsOpOver}
use Rattle.ckc_flow.specs.Live.{target_of}
use Rattle.ckc_passes.specs.Values.{is_target}
use Rattle.ckc_passes.specs.Rewrites.{ops_by, all_done, block_by, function_by}
use Rattle.ckc_passes.specs.code.Forward.{entered, filled, emptied}
use Rattle.ckc_passes.proofs.Followed.{same_test}
use Rattle.ckc_passes.proofs.Valued.{Hit, hit, miss, hits, target_over, entry_same, entry_other}
use Rattle.ckc_passes.proofs.Emptied.{empty_at, length-entered, empty_again}
use Rattle.ckc_passes_copies.specs.declared.origins.Last.{Last}
use Rattle.ckc_passes_copies.specs.Origins.{Writes, last_write, last_copied, copied_by, writes_after}
use Rattle.ckc_passes_copies.specs.Copied.{copied_op, copied_end, copies}
use Rattle.ckc_passes_copies.specs.code.Tables.{none_yet, last_in, writes_in, entry, ops_with, block_with, function_with}

-- ---- one more operation

-- of the target, and of the other registers
pub write_target : (before : List TacOp) (op : TacOp) (r : ℕ) → target_of op ≡ Some r → last_write (op ∷ before) r ≡ length before + 1
write_target before op r e =
    ap (λ (o : Option ℕ). if is_target o r then length before + 1 else last_write before r) e
    ∙ ap (λ (b : Bool). if b then length before + 1 else last_write before r) (same_test r r refl)

pub write_other : (before : List TacOp) (op : TacOp) (r : ℕ) → is_target (target_of op) r ≡ false → last_write (op ∷ before) r ≡ last_write before r
write_other before op r e = ap (λ (b : Bool). if b then length before + 1 else last_write before r) e

pub copied_target : (before : List TacOp) (op : TacOp) (r : ℕ) → target_of op ≡ Some r → last_copied (op ∷ before) r ≡ copied_by op
copied_target before op r e =
    ap (λ (o : Option ℕ). if is_target o r then copied_by op else last_copied before r) e
    ∙ ap (λ (b : Bool). if b then copied_by op else last_copied before r) (same_test r r refl)

pub copied_other : (before : List TacOp) (op : TacOp) (r : ℕ) → is_target (target_of op) r ≡ false → last_copied (op ∷ before) r ≡ last_copied before r
copied_other before op r e = ap (λ (b : Bool). if b then copied_by op else last_copied before r) e

-- ---- the table

abbrev last_after : List TacOp → ℕ → Last
last_after before r = record { at = last_write before r; copied = last_copied before r }

abbrev IsTable : List TacOp → List Last → Type 0
IsTable before table = (r : ℕ) → last_in table r ≡ last_after before r

abbrev at_of : Last → ℕ
at_of l = l.at

abbrev copied_of : Last → Option Operand
copied_of l = l.copied

both_last : (a b : ℕ) (o p : Option Operand) → a ≡ b → o ≡ p → ◌≡◌ {A = Last} (record { at = a; copied = o }) (record { at = b; copied = p })
both_last a b o p e f =
    ap (λ (n : ℕ). let l : Last = record { at = n; copied = o } in l) e
    ∙ ap (λ (q : Option Operand). let l : Last = record { at = b; copied = q } in l) f

writes_same : (before : List TacOp) (table : List Last) → IsTable before table → writes_in table ≡ writes_after before
writes_same before table h =
    ap (λ (f : ℕ → ℕ). let w : Writes = record { at = f; copied = λ r. (last_in table r).copied } in w) (fun_ext (λ r. ap at_of (h r)))
    ∙ ap (λ (g : ℕ → Option Operand). let w : Writes = record { at = last_write before; copied = g } in w) (fun_ext (λ r. ap copied_of (h r)))

abbrev Within : ℕ → TacOp → Type 0
Within n op = (t : ℕ) → target_of op ≡ Some t → t < n

next_table : (before : List TacOp) (table : List Last) (i : ℕ) (op : TacOp) → i ≡ length before → IsTable before table → Within (length table) op
    → IsTable (op ∷ before) (entered (target_of op) (entry i table op) table)
next_table before table i op long h within r = by (hits (target_of op) r)
  where
    by : Hit (target_of op) r → last_in (entered (target_of op) (entry i table op) table) r ≡ last_after (op ∷ before) r
    by (hit e) =
        entry_same (target_of op) table r (entry i table op) none_yet e within
        ∙ both_last (i + 1) (last_write (op ∷ before) r) (copied_by op) (last_copied (op ∷ before) r)
        (ap (λ n. n + 1) long ∙ sym (write_target before op r e)) (sym (copied_target before op r e))
    by (miss e apart) =
        entry_other (target_of op) table r (entry i table op) none_yet apart ∙ h r
        ∙ both_last (last_write before r) (last_write (op ∷ before) r) (last_copied before r) (last_copied (op ∷ before) r)
        (sym (write_other before op r e)) (sym (copied_other before op r e))

module _ (n : ℕ) where
  ops_same : (before ops : List TacOp) (table : List Last) (i : ℕ) → i ≡ length before → length table ≡ n → IsTable before table → All (Within n) ops
      → ops_with i table ops ≡ ops_by copies before ops
  ops_same before [] table i at long h over = refl
  ops_same before (op ∷ ops) table i at long h over =
      let here : Within (length table) op = subst (λ m. Within m op) (sym long) (All-head (Within n) op ops over) in
      let next = entered (target_of op) (entry i table op) table in
      ap (λ w. copied_op w op ∷ ops_with (i + 1) next ops) (writes_same before table h)
      ∙ ap (λ l. copied_op (writes_after before) op ∷ l)
      (ops_same (op ∷ before) ops next (i + 1) (omega (arith, at)) (length-entered (target_of op) (entry i table op) table ∙ long)
      (next_table before table i op at h here) (All-tail (Within n) op ops over))

  -- after all operations
  end_same : (before ops : List TacOp) (table : List Last) (i : ℕ) → i ≡ length before → length table ≡ n → IsTable before table → All (Within n) ops
      → writes_in (filled entry i ops table) ≡ writes_after (all_done before ops)
  end_same before [] table i at long h over = writes_same before table h
  end_same before (op ∷ ops) table i at long h over =
      let here : Within (length table) op = subst (λ m. Within m op) (sym long) (All-head (Within n) op ops over) in
      let next = entered (target_of op) (entry i table op) table in
      end_same (op ∷ before) ops next (i + 1) (omega (arith, at)) (length-entered (target_of op) (entry i table op) table ∙ long)
      (next_table before table i op at h here) (All-tail (Within n) op ops over)

module _ (functions : List TacFunc) where
  within_all : (regs : ℕ) (ops : List TacOp) → All (IsOpOver functions regs) ops → All (Within regs) ops
  within_all regs ops over = All-weaker (IsOpOver functions regs) (Within regs) (λ op h t e. target_over functions regs op t h e) ops over

  block_same : (count regs : ℕ) (block : TacBlock) → IsBlockOver functions count regs block → block_with (replicate regs none_yet) block ≡ block_by copies block
  block_same count regs block over =
      let table : List Last = replicate regs none_yet in
      let long = length-replicate regs none_yet in
      let first : IsTable [] table = λ r. empty_at regs r none_yet in
      let within = within_all regs block.ops over.0 in
      ap (λ (l : List TacOp). let b : TacBlock = record { ops = l; end = copied_end (writes_in (filled entry 0 block.ops table)) block.end } in b)
      (ops_same regs [] block.ops table 0 refl long first within)
      ∙ ap (λ (w : Writes). let b : TacBlock = record { ops = ops_by copies [] block.ops; end = copied_end w block.end } in b)
      (end_same regs [] block.ops table 0 refl long first within)

  blocks_same : (count regs : ℕ) (blocks : List TacBlock) → All (IsBlockOver functions count regs) blocks → map (block_with (replicate regs none_yet)) blocks ≡ map (block_by copies) blocks
  blocks_same count regs [] over = refl
  blocks_same count regs (block ∷ blocks) over =
      ap (λ b. b ∷ map (block_with (replicate regs none_yet)) blocks) (block_same count regs block (All-head (IsBlockOver functions count regs) block blocks over))
      ∙ ap (λ l. block_by copies block ∷ l) (blocks_same count regs blocks (All-tail (IsBlockOver functions count regs) block blocks over))

  function_same : (f : TacFunc) → IsFunctionOver functions f → function_with f ≡ function_by copies f
  function_same f over = ap (λ (l : List TacBlock). let g : TacFunc = record f { blocks = l } in g) (blocks_same (length f.blocks) f.regs f.blocks over.2)

  pub functions_same : (fs : List TacFunc) → All (IsFunctionOver functions) fs → map function_with fs ≡ map (function_by copies) fs
  functions_same [] over = refl
  functions_same (f ∷ fs) over =
      ap (λ g. g ∷ map function_with fs) (function_same f (All-head (IsFunctionOver functions) f fs over))
      ∙ ap (λ l. function_by copies f ∷ l) (functions_same fs (All-tail (IsFunctionOver functions) f fs over))

-- ---- the table is as empty after a block as before it

pub kept_empty : (table : List Last) (ops : List TacOp) → table ≡ replicate (length table) none_yet → emptied none_yet ops (filled entry 0 ops table) ≡ table
kept_empty table ops e =
    ap (λ (l : List Last). emptied none_yet ops (filled entry 0 ops l)) e ∙ empty_again none_yet entry (length table) ops ∙ sym e
