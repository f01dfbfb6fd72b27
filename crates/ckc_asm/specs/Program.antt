-- What a text of assembly stands for: entry, code and initial bytes.
use Rattle.std.specs.Prelude.{◌≡◌, ℕ, ◌+◌, ◌^◌, ◌<◌, ℤ, pos, List, [], length, take, drop, slice_get, Some, sum_by}
use Rattle.std.specs.List.{flat_map}
use Rattle.ckc_base.specs.MemoryMap.{code_start}
use Rattle.ckc_rv.specs.declared.instructions.Instr.TheVariants as instr
use Rattle.ckc_rv.specs.Table.{Decodes}
use Rattle.ckc_image.specs.Image.{word_bytes, IsProper}
use Rattle.ckc_asm.specs.declared.items.Form.{Form}
use Rattle.ckc_asm.specs.declared.items.Form.TheVariants as form
use Rattle.ckc_asm.specs.declared.items.Operand.{Operand}
use Rattle.ckc_asm.specs.declared.items.Operand.TheVariants.{Nothing, Number, Named}
use Rattle.ckc_asm_lines.specs.Assembled.{distance}
use Rattle.ckc_asm.specs.Cut.{Word, lines_of}
use Rattle.ckc_asm.specs.Items.{Statement}
use Rattle.ckc_asm.specs.Grammar.{HaveStatements}

-- ---- places

-- how many bytes of code a form takes
abbrev pub width_of : Form → ℕ
width_of form.Nothing = 0
width_of form.Entry = 0
width_of (form.Data bytes) = 0
width_of f = 4

-- how many bytes of code a statement takes
abbrev pub size_of : Statement → ℕ
size_of s = width_of s.item.form

-- where the k-th statement stands: after those before it, from 0x00001000
abbrev pub offset_of : List Statement → ℕ → ℕ
offset_of statements k = sum_by size_of (take k statements)

-- the address of the k-th statement, which is where its code would begin
abbrev pub address_of : List Statement → ℕ → ℕ
address_of statements k = code_start + offset_of statements k

-- a statement has the label
abbrev pub HasLabel : Statement → List ℕ → Type 0
HasLabel s name = (w : Word) × (s.label ≡ Some w) × (w.text ≡ name)

-- the label stands at the address
abbrev pub IsLabelAt : List Statement → List ℕ → ℕ → Type 0
IsLabelAt statements name address =
    (k : ℕ) × (s : Statement) × (slice_get statements k ≡ Some s) × HasLabel s name × (address ≡ address_of statements k)

-- ---- words

-- the word of an instruction with this number or distance, or of `.word`
abbrev pub IsWordOf : Form → ℤ → ℕ → Type 0
IsWordOf form.Nothing z word = ⊥
IsWordOf (form.Lui rd) z word = (n : ℕ) × (z ≡ pos n) × Decodes word (instr.Lui rd n)
IsWordOf (form.Auipc rd) z word = (n : ℕ) × (z ≡ pos n) × Decodes word (instr.Auipc rd n)
IsWordOf (form.Jal rd) z word = Decodes word (instr.Jal rd z)
IsWordOf (form.Jalr rd rs1) z word = Decodes word (instr.Jalr rd rs1 z)
IsWordOf (form.Branch op rs1 rs2) z word = Decodes word (instr.Branch op rs1 rs2 z)
IsWordOf (form.Load op rd rs1) z word = Decodes word (instr.Load op rd rs1 z)
IsWordOf (form.Store op rs1 rs2) z word = Decodes word (instr.Store op rs1 rs2 z)
IsWordOf (form.Imm op rd rs1) z word = Decodes word (instr.Imm op rd rs1 z)
IsWordOf (form.Reg op rd rs1 rs2) z word = Decodes word (instr.Reg op rd rs1 rs2)
IsWordOf form.Fence z word = (n : ℕ) × (z ≡ pos n) × Decodes word (instr.Fence n)
IsWordOf form.Ecall z word = Decodes word instr.Ecall
IsWordOf form.Ebreak z word = Decodes word instr.Ebreak
IsWordOf form.Word z word = (z ≡ pos word) × (word < 2 ^ 32)
IsWordOf form.Entry z word = ⊥
IsWordOf (form.Data bytes) z word = ⊥

-- The number of a statement at an address: its own, or how far its label is.
abbrev pub IsValue : List Statement → ℕ → List ℕ → Operand → ℤ → Type 0
IsValue statements address name Nothing z = z ≡ pos 0
IsValue statements address name (Number n) z = z ≡ n
IsValue statements address name Named z = (target : ℕ) × IsLabelAt statements name target × (z ≡ distance address target)

-- the bytes of a statement at an address
pub data IsBytes (statements : List Statement) (address : ℕ) (s : Statement) (bytes : List ℕ) : Type 0 where
  no_place : size_of s ≡ 0 → bytes ≡ [] → IsBytes statements address s bytes
  of_word : (z : ℤ) (word : ℕ) → IsValue statements address s.operand.text s.item.operand z → IsWordOf s.item.form z word → bytes ≡ word_bytes word → IsBytes statements address s bytes

-- ---- entry and initial bytes

-- the initial bytes that a `.data` gives; no other item gives any
abbrev pub data_bytes : Form → List ℕ
data_bytes (form.Data bytes) = bytes
data_bytes f = []

-- The item is a `.entry`.
abbrev pub IsEntry : Form → Type 0
IsEntry form.Entry = Unit {0}
IsEntry f = ⊥

-- The entry: 0x00001000, or what `.entry` says.
abbrev pub IsEntryOf : List Statement → List ℕ → Operand → ℤ → Type 0
IsEntryOf statements name Nothing z = ⊥
IsEntryOf statements name (Number n) z = z ≡ n
IsEntryOf statements name Named z = (target : ℕ) × IsLabelAt statements name target × (z ≡ pos target)

-- The program begins at this address: the one that `.entry` says, or 0x00001000 if no line is a `.entry`.
pub data Enters (statements : List Statement) (z : ℤ) : Type 0 where
  first : ((k : ℕ) (s : Statement) → slice_get statements k ≡ Some s → IsEntry s.item.form → ⊥) → z ≡ pos code_start → Enters statements z
  there : (k : ℕ) (s : Statement) → slice_get statements k ≡ Some s → IsEntry s.item.form → IsEntryOf statements s.operand.text s.item.operand z → Enters statements z

-- ---- the whole text

-- the bytes of the code where the k-th statement stands
abbrev pub bytes_at : List Statement → ℕ → Statement → List ℕ → List ℕ
bytes_at statements k s code = take (size_of s) (drop (offset_of statements k) code)

-- Entry, code and initial bytes of statements, each at the sum of the sizes before it.
pub record IsImage (statements : List Statement) (entry : ℤ) (code initial : List ℕ) : Type 0 where
  pub enters : Enters statements entry
  pub whole : length code ≡ sum_by size_of statements
  pub each : (k : ℕ) (s : Statement) → slice_get statements k ≡ Some s → IsBytes statements (address_of statements k) s (bytes_at statements k s code)
  pub data_is : initial ≡ flat_map (λ s. data_bytes s.item.form) statements

-- no label and no `.entry` stands twice
pub record AreSingle (statements : List Statement) : Type 0 where
  pub labels : (j k : ℕ) (s t : Statement) (name : List ℕ) → slice_get statements j ≡ Some s → slice_get statements k ≡ Some t → HasLabel s name → HasLabel t name → j ≡ k
  pub entries : (j k : ℕ) (s t : Statement) → slice_get statements j ≡ Some s → slice_get statements k ≡ Some t → IsEntry s.item.form → IsEntry t.item.form → j ≡ k

-- each line of the text has a statement
abbrev pub AreStatements : List ℕ → List Statement → Type 0
AreStatements text statements = HaveStatements (lines_of text) statements

-- The text is assembly of these parts.
pub record AsmOf (text : List ℕ) (entry : ℕ) (code initial : List ℕ) : Type 0 where
  pub statements : List Statement
  pub form : AreStatements text statements
  pub single : AreSingle statements
  pub image : IsImage statements (pos entry) code initial
  pub proper : IsProper entry code initial
