-- The function from words to instructions answers exactly when the table relates word and instruction.
use Rattle.std.proofs.Common.{◌≡◌, ℕ, ◌+◌, ◌*◌, ◌/◌, ◌%◌, ◌^◌, ◌<◌, ◌==◌, ◌&&◌, ℤ, Option, Some, None, IfSome, Bool, true, false, cond, refl, ap, arith, ◌∙◌, ◌↔◌, lit<, subst}
use Rattle.std.proofs.lemmas.Bool.{eqb-true, ltb-true}
use Rattle.std.specs.Option.{option_map}
use Rattle.std.proofs.lemmas.Int.{ints}
use Rattle.std.proofs.lemmas.Bool.Decides.{nat_tests}
use Rattle.ckc_rv_operations.specs.declared.operations.BranchOp.{BranchOp}
use Rattle.ckc_rv_operations.specs.declared.operations.LoadOp.{LoadOp}
use Rattle.ckc_rv_operations.specs.declared.operations.StoreOp.{StoreOp}
use Rattle.ckc_rv_operations.specs.declared.operations.ImmOp.{ImmOp}
use Rattle.ckc_rv_operations.specs.declared.operations.RegOp.{RegOp}
use Rattle.ckc_rv.specs.declared.instructions.Instr.{Instr}
use Rattle.ckc_rv.specs.declared.instructions.Instr.TheVariants.{Lui, Auipc, Jal, Jalr, Branch, Load, Store, Imm, Reg, Fence, Ecall, Ebreak}
use Rattle.ckc_rv.specs.Table.{InRange, Decodes, IsSigned, IsOffset, IsImmediate, row_word, r_word, i_word, s_word, b_word, u_word, j_word, low_bits, imm_bits, branch_funct3, load_funct3, store_funct3, imm_funct3, reg_funct3, reg_funct7}
use Rattle.ckc_rv.specs.code.Decoded.{decoded, by_opcode, decoded_jalr, decoded_branch, decoded_load, decoded_store, decoded_imm, decoded_reg, decoded_fence, decoded_system, signed_from, i_immediate, s_immediate, b_offset, j_offset, imm_of, rd_of, rs1_of, rs2_of, funct3_of, funct7_of, branch_op, load_op, store_op, imm_op, reg_op}

-- ---- signed numbers and their lowest bits

signed_12 : (z : ℤ) → IsSigned (2 ^ 11) z → signed_from (2 ^ 11) (low_bits 12 z) ≡ z
signed_12 z h = grind (arith, ints, nat_tests)

signed_13 : (z : ℤ) → IsSigned (2 ^ 12) z → signed_from (2 ^ 12) (low_bits 13 z) ≡ z
signed_13 z h = grind (arith, ints, nat_tests)

signed_21 : (z : ℤ) → IsSigned (2 ^ 20) z → signed_from (2 ^ 20) (low_bits 21 z) ≡ z
signed_21 z h = grind (arith, ints, nat_tests)

from_12 : (bits : ℕ) → bits < 2 ^ 12 → (low_bits 12 (signed_from (2 ^ 11) bits) ≡ bits) × IsSigned (2 ^ 11) (signed_from (2 ^ 11) bits)
from_12 bits h = grind (arith, ints, nat_tests)

from_13 : (bits : ℕ) → bits < 2 ^ 13 → bits % 2 ≡ 0 → (low_bits 13 (signed_from (2 ^ 12) bits) ≡ bits) × IsOffset (2 ^ 12) (signed_from (2 ^ 12) bits)
from_13 bits h even = grind (arith, ints, nat_tests)

from_21 : (bits : ℕ) → bits < 2 ^ 21 → bits % 2 ≡ 0 → (low_bits 21 (signed_from (2 ^ 20) bits) ≡ bits) × IsOffset (2 ^ 20) (signed_from (2 ^ 20) bits)
from_21 bits h even = grind (arith, ints, nat_tests)

-- ---- the codes of the operations

branch_codes : (op : BranchOp) → (branch_op (branch_funct3 op) ≡ Some op) × (branch_funct3 op < 8)
branch_codes op = grind (arith, nat_tests)

load_codes : (op : LoadOp) → (load_op (load_funct3 op) ≡ Some op) × (load_funct3 op < 8)
load_codes op = grind (arith, nat_tests)

store_codes : (op : StoreOp) → (store_op (store_funct3 op) ≡ Some op) × (store_funct3 op < 8)
store_codes op = grind (arith, nat_tests)

reg_codes : (op : RegOp) → (reg_op (reg_funct3 op) (reg_funct7 op) ≡ Some op) × (reg_funct3 op < 8) × (reg_funct7 op < 2 ^ 7)
reg_codes op = grind (arith, nat_tests)

branch_op_is : (funct3 : ℕ) → IfSome (branch_op funct3) (λ op. funct3 ≡ branch_funct3 op)
branch_op_is funct3 = grind (arith, nat_tests)

load_op_is : (funct3 : ℕ) → IfSome (load_op funct3) (λ op. funct3 ≡ load_funct3 op)
load_op_is funct3 = grind (arith, nat_tests)

store_op_is : (funct3 : ℕ) → IfSome (store_op funct3) (λ op. funct3 ≡ store_funct3 op)
store_op_is funct3 = grind (arith, nat_tests)

reg_op_is : (funct3 funct7 : ℕ) → funct3 < 8 → IfSome (reg_op funct3 funct7) (λ op. (funct3 ≡ reg_funct3 op) × (funct7 ≡ reg_funct7 op))
reg_op_is funct3 funct7 h = grind (arith, nat_tests)

-- ---- from a row to the decoder

-- the decoder looks at the opcode first
pub decoded_by : (word : ℕ) → word < 2 ^ 32 → decoded word ≡ by_opcode (word % 2 ^ 7) word
unfolding decoded
decoded_by word below = grind (arith, nat_tests)

decoded_at : (word opcode : ℕ) → word < 2 ^ 32 → word % 2 ^ 7 ≡ opcode → decoded word ≡ by_opcode opcode word
decoded_at word opcode below is = rw is at (decoded_by word below)

-- the fields of a word
record Fields (word funct7 rs2 rs1 funct3 rd opcode : ℕ) : Type 0 where
  below : word < 2 ^ 32
  opcode_is : word % 2 ^ 7 ≡ opcode
  funct7_is : funct7_of word ≡ funct7
  rs2_is : rs2_of word ≡ rs2
  rs1_is : rs1_of word ≡ rs1
  funct3_is : funct3_of word ≡ funct3
  rd_is : rd_of word ≡ rd

r_fields : (word funct7 rs2 rs1 funct3 rd opcode : ℕ) → funct7 < 2 ^ 7 → rs2 < 32 → rs1 < 32 → funct3 < 8 → rd < 32 → opcode < 2 ^ 7
    → word ≡ r_word funct7 rs2 rs1 funct3 rd opcode → Fields word funct7 rs2 rs1 funct3 rd opcode
r_fields word funct7 rs2 rs1 funct3 rd opcode h7 h2 h1 h3 hd ho e = record {
  below = omega arith;
  opcode_is = omega arith;
  funct7_is = omega arith;
  rs2_is = omega arith;
  rs1_is = omega arith;
  funct3_is = omega arith;
  rd_is = omega arith;
}

lui_found : (word rd upper : ℕ) → rd < 32 → upper < 2 ^ 20 → word ≡ u_word upper rd 0x37 → decoded word ≡ Some (Lui rd upper)
unfolding by_opcode
lui_found word rd upper hd hu e =
    let below : word < 2 ^ 32 = omega arith in
    let opcode : word % 2 ^ 7 ≡ 0x37 = omega arith in
    let rd_is : rd_of word ≡ rd = omega arith in
    let upper_is : word / 2 ^ 12 ≡ upper = omega arith in
    rw (decoded_at word 0x37 below opcode, rd_is, upper_is)

auipc_found : (word rd upper : ℕ) → rd < 32 → upper < 2 ^ 20 → word ≡ u_word upper rd 0x17 → decoded word ≡ Some (Auipc rd upper)
unfolding by_opcode
auipc_found word rd upper hd hu e =
    let below : word < 2 ^ 32 = omega arith in
    let opcode : word % 2 ^ 7 ≡ 0x17 = omega arith in
    let rd_is : rd_of word ≡ rd = omega arith in
    let upper_is : word / 2 ^ 12 ≡ upper = omega arith in
    rw (decoded_at word 0x17 below opcode, rd_is, upper_is)

-- the bits of a jump's offset stand as the decoder reads them
j_bits : (word rd bits : ℕ) → rd < 32 → bits < 2 ^ 21 → bits % 2 ≡ 0 → word ≡ j_word bits rd 0x6F
    → word / 2 ^ 31 * 2 ^ 20 + word / 2 ^ 12 % 2 ^ 8 * 2 ^ 12 + word / 2 ^ 20 % 2 * 2 ^ 11 + word / 2 ^ 21 % 2 ^ 10 * 2 ≡ bits
j_bits word rd bits hd hb even e = omega arith

jal_found : (word rd : ℕ) (offset : ℤ) → rd < 32 → IsOffset (2 ^ 20) offset → word ≡ j_word (low_bits 21 offset) rd 0x6F
    → decoded word ≡ Some (Jal rd offset)
unfolding by_opcode
jal_found word rd offset hd ho e =
    let small : low_bits 21 offset < 2 ^ 21 = omega arith in
    let even : low_bits 21 offset % 2 ≡ 0 = omega (arith, ho.1) in
    let below : word < 2 ^ 32 = omega arith in
    let opcode : word % 2 ^ 7 ≡ 0x6F = omega arith in
    let rd_is : rd_of word ≡ rd = omega arith in
    let offset_is : j_offset word ≡ offset = ap (signed_from (2 ^ 20)) (j_bits word rd (low_bits 21 offset) hd small even e) ∙ signed_21 offset ho.0 in
    rw (decoded_at word 0x6F below opcode, rd_is, offset_is)

-- the fields of an I-format word
i_fields : (word bits rs1 funct3 rd opcode : ℕ) → bits < 2 ^ 12 → rs1 < 32 → funct3 < 8 → rd < 32 → opcode < 2 ^ 7
    → word ≡ i_word bits rs1 funct3 rd opcode → Fields word (bits / 2 ^ 5) (bits % 2 ^ 5) rs1 funct3 rd opcode × (word / 2 ^ 20 ≡ bits)
i_fields word bits rs1 funct3 rd opcode hb h1 h3 hd ho e =
    (r_fields word (bits / 2 ^ 5) (bits % 2 ^ 5) rs1 funct3 rd opcode (omega arith) (omega arith) h1 h3 hd ho (omega arith), omega arith)

jalr_found : (word rd rs1 : ℕ) (offset : ℤ) → rd < 32 → rs1 < 32 → IsSigned (2 ^ 11) offset
    → word ≡ i_word (low_bits 12 offset) rs1 0 rd 0x67 → decoded word ≡ Some (Jalr rd rs1 offset)
unfolding by_opcode
jalr_found word rd rs1 offset hd h1 ho e =
    let i = i_fields word (low_bits 12 offset) rs1 0 rd 0x67 (omega arith) h1 (lit< tt) hd (lit< tt) e in
    let f = i.0 in
    let offset_is : i_immediate word ≡ offset = ap (signed_from (2 ^ 11)) i.1 ∙ signed_12 offset ho in
    rw (decoded_at word 0x67 f.below f.opcode_is, f.funct3_is, f.rd_is, f.rs1_is, offset_is)

load_found : (word : ℕ) (op : LoadOp) (rd rs1 : ℕ) (offset : ℤ) → rd < 32 → rs1 < 32 → IsSigned (2 ^ 11) offset
    → word ≡ i_word (low_bits 12 offset) rs1 (load_funct3 op) rd 0x03 → decoded word ≡ Some (Load op rd rs1 offset)
unfolding by_opcode
load_found word op rd rs1 offset hd h1 ho e =
    let codes = load_codes op in
    let i = i_fields word (low_bits 12 offset) rs1 (load_funct3 op) rd 0x03 (omega arith) h1 codes.1 hd (lit< tt) e in
    let f = i.0 in
    let offset_is : i_immediate word ≡ offset = ap (signed_from (2 ^ 11)) i.1 ∙ signed_12 offset ho in
    rw (decoded_at word 0x03 f.below f.opcode_is, f.funct3_is, f.rd_is, f.rs1_is, offset_is, codes.0)

store_found : (word : ℕ) (op : StoreOp) (rs1 rs2 : ℕ) (offset : ℤ) → rs1 < 32 → rs2 < 32 → IsSigned (2 ^ 11) offset
    → word ≡ s_word (low_bits 12 offset) rs2 rs1 (store_funct3 op) 0x23 → decoded word ≡ Some (Store op rs1 rs2 offset)
unfolding by_opcode
store_found word op rs1 rs2 offset h1 h2 ho e =
    let codes = store_codes op in
    let bits = low_bits 12 offset in
    let f = r_fields word (bits / 2 ^ 5) rs2 rs1 (store_funct3 op) (bits % 2 ^ 5) 0x23 (omega arith) h2 h1 codes.1 (omega arith) (lit< tt) e in
    let bits_is : funct7_of word * 2 ^ 5 + rd_of word ≡ bits = omega (arith, f.funct7_is, f.rd_is) in
    let offset_is : s_immediate word ≡ offset = ap (signed_from (2 ^ 11)) bits_is ∙ signed_12 offset ho in
    rw (decoded_at word 0x23 f.below f.opcode_is, f.funct3_is, f.rs1_is, f.rs2_is, offset_is, codes.0)

branch_found : (word : ℕ) (op : BranchOp) (rs1 rs2 : ℕ) (offset : ℤ) → rs1 < 32 → rs2 < 32 → IsOffset (2 ^ 12) offset
    → word ≡ b_word (low_bits 13 offset) rs2 rs1 (branch_funct3 op) 0x63 → decoded word ≡ Some (Branch op rs1 rs2 offset)
unfolding by_opcode
branch_found word op rs1 rs2 offset h1 h2 ho e =
    let codes = branch_codes op in
    let bits = low_bits 13 offset in
    let even : bits % 2 ≡ 0 = omega (arith, ho.1) in
    let upper = bits / 2 ^ 12 * 2 ^ 6 + bits / 2 ^ 5 % 2 ^ 6 in
    let lower = bits % 2 ^ 5 + bits / 2 ^ 11 % 2 in
    let f = r_fields word upper rs2 rs1 (branch_funct3 op) lower 0x63 (omega arith) h2 h1 codes.1 (omega arith) (lit< tt) e in
    let bits_is : funct7_of word / 2 ^ 6 * 2 ^ 12 + rd_of word % 2 * 2 ^ 11 + funct7_of word % 2 ^ 6 * 2 ^ 5 + rd_of word / 2 * 2 ≡ bits
    = rw (f.funct7_is, f.rd_is) (omega arith) in
    let offset_is : b_offset word ≡ offset = ap (signed_from (2 ^ 12)) bits_is ∙ signed_13 offset ho.0 in
    rw (decoded_at word 0x63 f.below f.opcode_is, f.funct3_is, f.rs1_is, f.rs2_is, offset_is, codes.0)

-- the decoder reads the operand of an operation with an immediate, and finds the operation
imm_codes : (word : ℕ) (op : ImmOp) (rs1 rd : ℕ) (z : ℤ) → IsImmediate op z → word / 2 ^ 20 ≡ imm_bits op z
    → (imm_op (imm_funct3 op) (funct7_of word) ≡ Some op) × (imm_of op word ≡ z)
imm_codes word op rs1 rd z h e = grind (arith, ints, nat_tests)

imm_funct3_below : (op : ImmOp) → imm_funct3 op < 8
imm_funct3_below op = grind arith

imm_bits_below : (op : ImmOp) (z : ℤ) → imm_bits op z < 2 ^ 12
imm_bits_below op z = grind arith

imm_found : (word : ℕ) (op : ImmOp) (rd rs1 : ℕ) (z : ℤ) → rd < 32 → rs1 < 32 → IsImmediate op z
    → word ≡ i_word (imm_bits op z) rs1 (imm_funct3 op) rd 0x13 → decoded word ≡ Some (Imm op rd rs1 z)
unfolding by_opcode
imm_found word op rd rs1 z hd h1 hz e =
    let i = i_fields word (imm_bits op z) rs1 (imm_funct3 op) rd 0x13 (imm_bits_below op z) h1 (imm_funct3_below op) hd (lit< tt) e in
    let f = i.0 in
    let codes = imm_codes word op rs1 rd z hz i.1 in
    let op_is : imm_op (funct3_of word) (funct7_of word) ≡ Some op = rw f.funct3_is codes.0 in
    rw (decoded_at word 0x13 f.below f.opcode_is, op_is, f.rd_is, f.rs1_is, codes.1)

reg_found : (word : ℕ) (op : RegOp) (rd rs1 rs2 : ℕ) → rd < 32 → rs1 < 32 → rs2 < 32
    → word ≡ r_word (reg_funct7 op) rs2 rs1 (reg_funct3 op) rd 0x33 → decoded word ≡ Some (Reg op rd rs1 rs2)
unfolding by_opcode
reg_found word op rd rs1 rs2 hd h1 h2 e =
    let codes = reg_codes op in
    let f = r_fields word (reg_funct7 op) rs2 rs1 (reg_funct3 op) rd 0x33 codes.2 h2 h1 codes.1 hd (lit< tt) e in
    rw (decoded_at word 0x33 f.below f.opcode_is, f.funct7_is, f.funct3_is, f.rd_is, f.rs1_is, f.rs2_is, codes.0)

fence_found : (word sets : ℕ) → sets < 2 ^ 8 → word ≡ i_word sets 0 0 0 0x0F → decoded word ≡ Some (Fence sets)
unfolding by_opcode
fence_found word sets h e =
    let below : word < 2 ^ 32 = omega arith in
    let opcode : word % 2 ^ 7 ≡ 0x0F = omega arith in
    let high : word / 2 ^ 28 ≡ 0 = omega arith in
    let middle : word / 2 ^ 7 % 2 ^ 13 ≡ 0 = omega arith in
    let sets_is : word / 2 ^ 20 ≡ sets = omega arith in
    rw (decoded_at word 0x0F below opcode, high, middle, sets_is)

ecall_found : decoded 0x00000073 ≡ Some Ecall
unfolding decoded by_opcode
ecall_found = refl

ebreak_found : decoded 0x00100073 ≡ Some Ebreak
unfolding decoded by_opcode
ebreak_found = refl

-- each row is found
found_row : (i : Instr) → InRange i → decoded (row_word i) ≡ Some i
found_row (Lui rd upper) h = lui_found _ rd upper h.0 h.1 refl
found_row (Auipc rd upper) h = auipc_found _ rd upper h.0 h.1 refl
found_row (Jal rd offset) h = jal_found _ rd offset h.0 h.1 refl
found_row (Jalr rd rs1 offset) h = jalr_found _ rd rs1 offset h.0 h.1 h.2 refl
found_row (Branch op rs1 rs2 offset) h = branch_found _ op rs1 rs2 offset h.0 h.1 h.2 refl
found_row (Load op rd rs1 offset) h = load_found _ op rd rs1 offset h.0 h.1 h.2 refl
found_row (Store op rs1 rs2 offset) h = store_found _ op rs1 rs2 offset h.0 h.1 h.2 refl
found_row (Imm op rd rs1 z) h = imm_found _ op rd rs1 z h.0 h.1 h.2 refl
found_row (Reg op rd rs1 rs2) h = reg_found _ op rd rs1 rs2 h.0 h.1 h.2 refl
found_row (Fence sets) h = fence_found _ sets h refl
found_row Ecall h = ecall_found
found_row Ebreak h = ebreak_found

-- ---- from the decoder to a row

some_map : {X : Type 0} (f : X → Instr) (o : Option X) (P : X → Type 0) (Q : Instr → Type 0)
    → IfSome o P → ((x : X) → P x → Q (f x)) → IfSome (option_map f o) Q
some_map f None P Q h g = tt
some_map f (Some x) P Q h g = g x h

some_if : (b : Bool) (x y : Option Instr) (P : Instr → Type 0)
    → (b ≡ true → IfSome x P) → (b ≡ false → IfSome y P) → IfSome (cond b x y) P
some_if true x y P h g = h refl
some_if false x y P h g = g refl

-- a word below 2 ^ 32 is made of its fields
word_is : (word : ℕ) → word ≡ r_word (funct7_of word) (rs2_of word) (rs1_of word) (funct3_of word) (rd_of word) (word % 2 ^ 7)
word_is word = omega arith

some_where : (b : Bool) (x : Option Instr) (P : Instr → Type 0) → (b ≡ true → IfSome x P) → IfSome (cond b x None) P
some_where true x P h = h refl
some_where false x P h = tt

lui_row : (word : ℕ) → word < 2 ^ 32 → word % 2 ^ 7 ≡ 0x37 → Decodes word (Lui (rd_of word) (word / 2 ^ 12))
lui_row word below opcode = ((omega arith, omega arith), omega arith)

auipc_row : (word : ℕ) → word < 2 ^ 32 → word % 2 ^ 7 ≡ 0x17 → Decodes word (Auipc (rd_of word) (word / 2 ^ 12))
auipc_row word below opcode = ((omega arith, omega arith), omega arith)

jal_row : (word : ℕ) → word < 2 ^ 32 → word % 2 ^ 7 ≡ 0x6F → Decodes word (Jal (rd_of word) (j_offset word))
jal_row word below opcode =
    let bits = word / 2 ^ 31 * 2 ^ 20 + word / 2 ^ 12 % 2 ^ 8 * 2 ^ 12 + word / 2 ^ 20 % 2 * 2 ^ 11 + word / 2 ^ 21 % 2 ^ 10 * 2 in
    let from = from_21 bits (omega arith) (omega arith) in
    let e : word ≡ j_word bits (rd_of word) 0x6F = omega arith in
    ((omega arith, from.1), rw from.0 e)

jalr_row : (word : ℕ) → word < 2 ^ 32 → word % 2 ^ 7 ≡ 0x67 → IfSome (decoded_jalr word) (λ i. Decodes word i)
jalr_row word below opcode = some_where _ _ _ (λ t.
    let funct3 : funct3_of word ≡ 0 = eqb-true _ _ t in
    let from = from_12 (word / 2 ^ 20) (omega arith) in
    let e : word ≡ i_word (word / 2 ^ 20) (rs1_of word) 0 (rd_of word) 0x67 = omega arith in
    ((omega arith, omega arith, from.1), rw from.0 e))

branch_row : (word : ℕ) → word < 2 ^ 32 → word % 2 ^ 7 ≡ 0x63 → IfSome (decoded_branch word) (λ i. Decodes word i)
branch_row word below opcode = some_map _ (branch_op (funct3_of word)) _ _ (branch_op_is (funct3_of word))
    (λ op (code : funct3_of word ≡ branch_funct3 op).
    let bits = funct7_of word / 2 ^ 6 * 2 ^ 12 + rd_of word % 2 * 2 ^ 11 + funct7_of word % 2 ^ 6 * 2 ^ 5 + rd_of word / 2 * 2 in
    let from = from_13 bits (omega arith) (omega arith) in
    let e : word ≡ b_word bits (rs2_of word) (rs1_of word) (branch_funct3 op) 0x63 = omega arith in
    ((omega arith, omega arith, from.1), rw from.0 e))

load_row : (word : ℕ) → word < 2 ^ 32 → word % 2 ^ 7 ≡ 0x03 → IfSome (decoded_load word) (λ i. Decodes word i)
load_row word below opcode = some_map _ (load_op (funct3_of word)) _ _ (load_op_is (funct3_of word))
    (λ op (code : funct3_of word ≡ load_funct3 op).
    let from = from_12 (word / 2 ^ 20) (omega arith) in
    let e : word ≡ i_word (word / 2 ^ 20) (rs1_of word) (load_funct3 op) (rd_of word) 0x03 = omega arith in
    ((omega arith, omega arith, from.1), rw from.0 e))

store_row : (word : ℕ) → word < 2 ^ 32 → word % 2 ^ 7 ≡ 0x23 → IfSome (decoded_store word) (λ i. Decodes word i)
store_row word below opcode = some_map _ (store_op (funct3_of word)) _ _ (store_op_is (funct3_of word))
    (λ op (code : funct3_of word ≡ store_funct3 op).
    let bits = funct7_of word * 2 ^ 5 + rd_of word in
    let from = from_12 bits (omega arith) in
    let e : word ≡ s_word bits (rs2_of word) (rs1_of word) (store_funct3 op) 0x23 = omega arith in
    ((omega arith, omega arith, from.1), rw from.0 e))

reg_row : (word : ℕ) → word < 2 ^ 32 → word % 2 ^ 7 ≡ 0x33 → IfSome (decoded_reg word) (λ i. Decodes word i)
reg_row word below opcode = some_map _ (reg_op (funct3_of word) (funct7_of word)) _ _
    (reg_op_is (funct3_of word) (funct7_of word) (omega arith))
    (λ op (codes : (funct3_of word ≡ reg_funct3 op) × (funct7_of word ≡ reg_funct7 op)). ((omega arith, omega arith, omega arith), omega arith))

-- the operation with an immediate, whose bits 31 to 20 are these
imm_op_is : (word funct3 : ℕ) → word < 2 ^ 32 → funct3 < 8
    → IfSome (imm_op funct3 (funct7_of word)) (λ op. (funct3 ≡ imm_funct3 op) × (imm_bits op (imm_of op word) ≡ word / 2 ^ 20) × IsImmediate op (imm_of op word))
imm_op_is word funct3 below h =
    let from = from_12 (word / 2 ^ 20) (omega arith) in
    grind (arith, ints, nat_tests, from)

imm_row : (word : ℕ) → word < 2 ^ 32 → word % 2 ^ 7 ≡ 0x13 → IfSome (decoded_imm word) (λ i. Decodes word i)
imm_row word below opcode = some_map _ (imm_op (funct3_of word) (funct7_of word)) _ _ (imm_op_is word (funct3_of word) below (omega arith))
    (λ op (code : (funct3_of word ≡ imm_funct3 op) × (imm_bits op (imm_of op word) ≡ word / 2 ^ 20) × IsImmediate op (imm_of op word)).
    let e : word ≡ i_word (word / 2 ^ 20) (rs1_of word) (imm_funct3 op) (rd_of word) 0x13 = omega (arith, code.0) in
    ((omega arith, omega arith, code.2), rw code.1 e))

fence_row : (word : ℕ) → word < 2 ^ 32 → word % 2 ^ 7 ≡ 0x0F → IfSome (decoded_fence word) (λ i. Decodes word i)
fence_row word below opcode = some_where _ _ _ (λ (t : (word / 2 ^ 28 == 0 && word / 2 ^ 7 % 2 ^ 13 == 0) ≡ true).
    let high : (word / 2 ^ 28 ≡ 0) × (word / 2 ^ 7 % 2 ^ 13 ≡ 0) = grind (arith, nat_tests) in
    (omega arith, omega arith))

ecall_row : (word : ℕ) → word ≡ 0x00000073 → Decodes word Ecall
ecall_row word e = (tt, e)

ebreak_row : (word : ℕ) → word ≡ 0x00100073 → Decodes word Ebreak
ebreak_row word e = (tt, e)

system_row : (word : ℕ) → IfSome (decoded_system word) (λ i. Decodes word i)
system_row word = some_if _ _ _ _ (λ t. ecall_row word (eqb-true _ _ t)) (λ _.
    some_where _ _ _ (λ t. ebreak_row word (eqb-true _ _ t)))

-- what the decoder finds is a row
row_found : (word : ℕ) → IfSome (decoded word) (λ i. Decodes word i)
unfolding decoded by_opcode
row_found word = some_where _ _ _ (λ t.
    let below : word < 2 ^ 32 = ltb-true _ _ t in
    some_if _ _ _ _ (λ o. lui_row word below (eqb-true _ _ o)) (λ _.
    some_if _ _ _ _ (λ o. auipc_row word below (eqb-true _ _ o)) (λ _.
    some_if _ _ _ _ (λ o. jal_row word below (eqb-true _ _ o)) (λ _.
    some_if _ _ _ _ (λ o. jalr_row word below (eqb-true _ _ o)) (λ _.
    some_if _ _ _ _ (λ o. branch_row word below (eqb-true _ _ o)) (λ _.
    some_if _ _ _ _ (λ o. load_row word below (eqb-true _ _ o)) (λ _.
    some_if _ _ _ _ (λ o. store_row word below (eqb-true _ _ o)) (λ _.
    some_if _ _ _ _ (λ o. imm_row word below (eqb-true _ _ o)) (λ _.
    some_if _ _ _ _ (λ o. reg_row word below (eqb-true _ _ o)) (λ _.
    some_if _ _ _ _ (λ o. fence_row word below (eqb-true _ _ o)) (λ _.
    some_where (word % 2 ^ 7 == 0x73) (decoded_system word) (λ i. Decodes word i) (λ o. system_row word))))))))))))

-- The decoder answers an instruction exactly when the word is the instruction's.
pub decoded_law : (word : ℕ) (i : Instr) → (decoded word ≡ Some i) ↔ Decodes word i
decoded_law word i = (
  λ (e : decoded word ≡ Some i). subst (λ (o : Option Instr). IfSome o (λ j. Decodes word j)) e (row_found word),
  λ (d : Decodes word i). rw d.1 (found_row i d.0),
)

none_or : (o : Option Instr) → ((i : Instr) → o ≡ Some i → ⊥) → o ≡ None
none_or None h = refl
none_or (Some i) h = absurd (h i refl)

-- It answers None exactly when no row has the word.
pub decoded_none : (word : ℕ) → (decoded word ≡ None) ↔ ((i : Instr) → ¬ Decodes word i)
decoded_none word = (
  λ (e : decoded word ≡ None) i d. let found : decoded word ≡ Some i = (decoded_law word i).1 d in cc,
  λ (h : (i : Instr) → ¬ Decodes word i). none_or (decoded word) (λ i e. h i ((decoded_law word i).0 e)),
)

some_weaker : (o : Option Instr) (P Q : Instr → Type 0) → ((i : Instr) → P i → Q i) → IfSome o P → IfSome o Q
some_weaker None P Q f h = tt
some_weaker (Some i) P Q f h = f i h

pub decoded_fits : (word : ℕ) → IfSome (decoded word) (λ i. InRange i)
decoded_fits word = some_weaker (decoded word) (λ i. Decodes word i) (λ i. InRange i) (λ i d. d.0) (row_found word)
