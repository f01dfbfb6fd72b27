-- The statement of a line as a reader finds it, step by step. The grammar says the same without steps.
use Rattle.std.specs.Prelude.{ℕ, Bool, false, ◌&&◌, nat_le, if◌then◌else◌, List, [], ◌∷◌, length, bytes_eq, slice_get, Option, Some, None, option_and_then, unwrap_or}
use Rattle.std.specs.List.{find}
use Rattle.std.specs.Option.{option_map}
use Rattle.ckc_rv_operations.specs.declared.operations.BranchOp.TheVariants.{Beq, Bne, Blt, Bge, Bltu, Bgeu}
use Rattle.ckc_rv_operations.specs.declared.operations.LoadOp.TheVariants.{Lb, Lh, Lw, Lbu, Lhu}
use Rattle.ckc_rv_operations.specs.declared.operations.StoreOp.TheVariants.{Sb, Sh, Sw}
use Rattle.ckc_rv_operations.specs.declared.operations.ImmOp.TheVariants.{Addi, Slti, Sltiu, Xori, Ori, Andi, Slli, Srli, Srai}
use Rattle.ckc_rv_operations.specs.declared.operations.RegOp.TheVariants.{Add, Sub, Sll, Slt, Sltu, Xor, Srl, Sra, Or, And, Mul, Mulh, Mulhsu, Mulhu, Div, Divu, Rem, Remu}
use Rattle.ckc_asm.specs.declared.items.Kind.{Kind}
use Rattle.ckc_asm.specs.declared.items.Kind.TheVariants as kind
use Rattle.ckc_asm.specs.declared.items.Form.{Form}
use Rattle.ckc_asm.specs.declared.items.Form.TheVariants as form
use Rattle.ckc_asm.specs.declared.items.Operand.{Operand}
use Rattle.ckc_asm.specs.declared.items.Operand.TheVariants.{Nothing, Number, Named}
use Rattle.ckc_asm.specs.declared.items.Item.{Item}
use Rattle.ckc_asm.specs.Cut.{Word, cut}
use Rattle.ckc_asm.specs.code.Numerals.{register_of, number_of, byte_of}
use Rattle.ckc_asm.specs.Spelled.{is_name}
use Rattle.ckc_asm.specs.Items.{kind_name, item, Statement, no_word, texts, operand_index}

abbrev pub kinds : List Kind
kinds =
    kind.Imm Addi ∷ kind.Imm Slti ∷ kind.Imm Sltiu ∷ kind.Imm Xori ∷ kind.Imm Ori ∷ kind.Imm Andi ∷ kind.Imm Slli ∷
    kind.Imm Srli ∷ kind.Imm Srai ∷ kind.Load Lw ∷ kind.Load Lb ∷ kind.Load Lh ∷ kind.Load Lbu ∷ kind.Load Lhu ∷
    kind.Store Sw ∷ kind.Store Sb ∷ kind.Store Sh ∷ kind.Branch Beq ∷ kind.Branch Bne ∷ kind.Branch Blt ∷
    kind.Branch Bge ∷ kind.Branch Bltu ∷ kind.Branch Bgeu ∷ kind.Jal ∷ kind.Jalr ∷ kind.Lui ∷ kind.Auipc ∷
    kind.Reg Add ∷ kind.Reg Sub ∷ kind.Reg Sll ∷ kind.Reg Slt ∷ kind.Reg Sltu ∷ kind.Reg Xor ∷ kind.Reg Srl ∷
    kind.Reg Sra ∷ kind.Reg Or ∷ kind.Reg And ∷ kind.Reg Mul ∷ kind.Reg Mulh ∷ kind.Reg Mulhsu ∷ kind.Reg Mulhu ∷
    kind.Reg Div ∷ kind.Reg Divu ∷ kind.Reg Rem ∷ kind.Reg Remu ∷ kind.Fence ∷ kind.Ecall ∷ kind.Ebreak ∷
    kind.Word ∷ kind.Entry ∷ kind.Data ∷ []

-- the kind that the word names
unfoldable pub kind_of : List ℕ → Option Kind
kind_of name = find (λ k. bytes_eq (kind_name k) name) kinds

-- ---- the words after the name

abbrev pub is_sign : ℕ → List ℕ → Bool
is_sign b w = bytes_eq w (b ∷ [])

abbrev pub one : List (List ℕ) → Option (List ℕ)
one (a ∷ []) = Some a
one _ = None

-- `a, b`
abbrev pub two : List (List ℕ) → Option (List ℕ × List ℕ)
two (a ∷ p ∷ b ∷ []) = if is_sign 44 p then Some (a, b) else None
two _ = None

-- `a, b, c`
abbrev pub three : List (List ℕ) → Option (List ℕ × List ℕ × List ℕ)
three (a ∷ p ∷ b ∷ q ∷ c ∷ []) = if is_sign 44 p && is_sign 44 q then Some (a, b, c) else None
three _ = None

-- `a, b(c)`
abbrev pub based : List (List ℕ) → Option (List ℕ × List ℕ × List ℕ)
based (a ∷ p ∷ b ∷ q ∷ c ∷ r ∷ []) = if is_sign 44 p && (is_sign 40 q && is_sign 41 r) then Some (a, b, c) else None
based _ = None

infixl 10 ◌>>=◌
abbrev pub ◌>>=◌ : {A B : Type 0} → Option A → (A → Option B) → Option B
o >>= f = option_and_then f o

-- ---- the items

-- a label, or a number
abbrev pub target_of : List ℕ → Option Operand
target_of w = if is_name w then Some Named else option_map Number (number_of w)

abbrev pub three_registers : List (List ℕ) → (ℕ → ℕ → ℕ → Form) → Option Item
three_registers words f = do
  ws ← three words
  a ← register_of ws.0
  b ← register_of ws.1
  c ← register_of ws.2
  Some (item (f a b c) Nothing)

abbrev pub two_registers : List (List ℕ) → (ℕ → ℕ → Form) → (List ℕ → Option Operand) → Option Item
two_registers words f last = do
  ws ← three words
  a ← register_of ws.0
  b ← register_of ws.1
  operand ← last ws.2
  Some (item (f a b) operand)

abbrev pub one_register : List (List ℕ) → (ℕ → Form) → (List ℕ → Option Operand) → Option Item
one_register words f last = do
  ws ← two words
  a ← register_of ws.0
  operand ← last ws.1
  Some (item (f a) operand)

abbrev pub from_base : List (List ℕ) → (ℕ → ℕ → Form) → Option Item
from_base words f = do
  ws ← based words
  a ← register_of ws.0
  operand ← number_of ws.1
  base ← register_of ws.2
  Some (item (f a base) (Number operand))

abbrev pub just : List (List ℕ) → Form → (List ℕ → Option Operand) → Option Item
just words f last = do
  w ← one words
  operand ← last w
  Some (item f operand)

abbrev pub alone : List (List ℕ) → Form → Option Item
alone [] f = Some (item f Nothing)
alone (w ∷ words) f = None

-- the bytes of words
abbrev pub bytes_of : List (List ℕ) → Option (List ℕ)
bytes_of [] = Some []
bytes_of (w ∷ words) = do
  b ← byte_of w
  bytes ← bytes_of words
  Some (b ∷ bytes)

abbrev pub data_of : List (List ℕ) → Option Item
data_of words =
    if nat_le 1 (length words) && nat_le (length words) 16
    then option_map (λ bytes. item (form.Data bytes) Nothing) (bytes_of words) else None

abbrev pub number_operand : List ℕ → Option Operand
number_operand w = option_map Number (number_of w)

-- the item of a kind with these words after its name
unfoldable pub item_with : Kind → List (List ℕ) → Option Item
item_with kind.Lui words = one_register words (λ rd. form.Lui rd) number_operand
item_with kind.Auipc words = one_register words (λ rd. form.Auipc rd) number_operand
item_with kind.Jal words = one_register words (λ rd. form.Jal rd) target_of
item_with kind.Jalr words = from_base words (λ rd rs1. form.Jalr rd rs1)
item_with (kind.Branch op) words = two_registers words (λ rs1 rs2. form.Branch op rs1 rs2) target_of
item_with (kind.Load op) words = from_base words (λ rd rs1. form.Load op rd rs1)
item_with (kind.Store op) words = from_base words (λ rs2 rs1. form.Store op rs1 rs2)
item_with (kind.Imm op) words = two_registers words (λ rd rs1. form.Imm op rd rs1) number_operand
item_with (kind.Reg op) words = three_registers words (λ rd rs1 rs2. form.Reg op rd rs1 rs2)
item_with kind.Fence words = just words form.Fence number_operand
item_with kind.Ecall words = alone words form.Ecall
item_with kind.Ebreak words = alone words form.Ebreak
item_with kind.Word words = just words form.Word number_operand
item_with kind.Entry words = just words form.Entry target_of
item_with kind.Data words = data_of words

-- the item of words; no word is no item
unfoldable pub item_of : List (List ℕ) → Option Item
item_of [] = Some (item form.Nothing Nothing)
item_of (name ∷ words) = option_and_then (λ k. item_with k words) (kind_of name)

-- ---- the lines

abbrev pub statement_with : Option Word → List Word → Option Statement
statement_with label words =
    option_map (λ i. record { label = label; item = i; operand = unwrap_or (slice_get words (operand_index i.form)) no_word })
    (item_of (texts words))

-- whether a label stands first: a word and `:`
abbrev pub has_label : List Word → Bool
has_label (w ∷ colon ∷ words) = is_sign 58 colon.text
has_label _ = false

abbrev pub labelled : List Word → Option Statement
labelled (w ∷ colon ∷ words) = if is_name w.text then statement_with (Some w) words else None
labelled _ = None

unfoldable pub statement_of : List Word → Option Statement
statement_of words = if has_label words then labelled words else statement_with None words

-- the statement of a line, if its form is right
abbrev pub reading : List ℕ → Option Statement
reading line = statement_of (cut 1 line)
