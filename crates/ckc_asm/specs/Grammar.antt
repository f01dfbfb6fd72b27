-- The grammar of assembly: which statement a line has. (The forms of the instructions are those of the RISC-V
-- assembly programmer's manual; the directives are the project's own.)
use Rattle.std.specs.Prelude.{◌≡◌, ◌⊎◌, ℕ, ◌<◌, ◌≤◌, ℤ, true, List, [], ◌∷◌, length, codes, slice_get, None, Some, unwrap_or}
use Rattle.ckc_asm.specs.declared.items.Kind.{Kind}
use Rattle.ckc_asm.specs.declared.items.Kind.TheVariants as kind
use Rattle.ckc_asm.specs.declared.items.Form.{Form}
use Rattle.ckc_asm.specs.declared.items.Form.TheVariants as form
use Rattle.ckc_asm.specs.declared.items.Operand.{Operand}
use Rattle.ckc_asm.specs.declared.items.Operand.TheVariants.{Nothing, Number, Named}
use Rattle.ckc_asm.specs.declared.items.Item.{Item}
use Rattle.ckc_asm.specs.Cut.{Word, cut}
use Rattle.ckc_asm.specs.Names.{register}
use Rattle.ckc_asm.specs.Spelled.{is_name, IsNumber, IsByte, IsKind}
use Rattle.ckc_asm.specs.Items.{Statement, item, no_word, texts, operand_index}

-- ---- the words after the name of a kind

-- `a, b`
abbrev pub pair : List ℕ → List ℕ → List (List ℕ)
pair a b = a ∷ codes "," ∷ b ∷ []

-- `a, b, c`
abbrev pub triple : List ℕ → List ℕ → List ℕ → List (List ℕ)
triple a b c = a ∷ codes "," ∷ b ∷ codes "," ∷ c ∷ []

-- `a, b(c)`
abbrev pub based_on : List ℕ → List ℕ → List ℕ → List (List ℕ)
based_on a b c = a ∷ codes "," ∷ b ∷ codes "(" ∷ c ∷ codes ")" ∷ []

-- the word is a number
abbrev pub IsPlain : List ℕ → Operand → Type 0
IsPlain w o = (z : ℤ) × IsNumber w z × (o ≡ Number z)

-- the word is a label, or a number
abbrev pub IsTarget : List ℕ → Operand → Type 0
IsTarget w o = ((is_name w ≡ true) × (o ≡ Named)) ⊎ IsPlain w o

-- three registers
pub record OfThree (words : List (List ℕ)) (f : ℕ → ℕ → ℕ → Form) (i : Item) : Type 0 where
  pub a : ℕ
  pub b : ℕ
  pub c : ℕ
  pub small : (a < 32) × (b < 32) × (c < 32)
  pub spelled : words ≡ triple (register a) (register b) (register c)
  pub is : i ≡ item (f a b c) Nothing

-- two registers and a last word
pub record OfTwo (words : List (List ℕ)) (f : ℕ → ℕ → Form) (Last : List ℕ → Operand → Type 0) (i : Item) : Type 0 where
  pub a : ℕ
  pub b : ℕ
  pub w : List ℕ
  pub o : Operand
  pub small : (a < 32) × (b < 32)
  pub spelled : words ≡ triple (register a) (register b) w
  pub last : Last w o
  pub is : i ≡ item (f a b) o

-- a register and a last word
pub record OfOne (words : List (List ℕ)) (f : ℕ → Form) (Last : List ℕ → Operand → Type 0) (i : Item) : Type 0 where
  pub a : ℕ
  pub w : List ℕ
  pub o : Operand
  pub small : a < 32
  pub spelled : words ≡ pair (register a) w
  pub last : Last w o
  pub is : i ≡ item (f a) o

-- a register, and an offset from another
pub record OfBase (words : List (List ℕ)) (f : ℕ → ℕ → Form) (i : Item) : Type 0 where
  pub a : ℕ
  pub base : ℕ
  pub w : List ℕ
  pub z : ℤ
  pub small : (a < 32) × (base < 32)
  pub spelled : words ≡ based_on (register a) w (register base)
  pub offset : IsNumber w z
  pub is : i ≡ item (f a base) (Number z)

-- one word
pub record OfWord (words : List (List ℕ)) (f : Form) (Last : List ℕ → Operand → Type 0) (i : Item) : Type 0 where
  pub w : List ℕ
  pub o : Operand
  pub spelled : words ≡ w ∷ []
  pub last : Last w o
  pub is : i ≡ item f o

-- no word
abbrev pub OfNothing : List (List ℕ) → Form → Item → Type 0
OfNothing words f i = (words ≡ []) × (i ≡ item f Nothing)

-- each word is a byte
abbrev pub AreBytes : List (List ℕ) → List ℕ → Type 0
AreBytes [] [] = Unit {0}
AreBytes [] (b ∷ bytes) = ⊥
AreBytes (w ∷ words) [] = ⊥
AreBytes (w ∷ words) (b ∷ bytes) = IsByte w b × AreBytes words bytes

-- 1 to 16 bytes
pub record OfBytes (words : List (List ℕ)) (i : Item) : Type 0 where
  pub bytes : List ℕ
  pub few : (1 ≤ length words) × (length words ≤ 16)
  pub spelled : AreBytes words bytes
  pub is : i ≡ item (form.Data bytes) Nothing

-- The words after the name of a kind are those of the item.
unfoldable pub HasWords : Kind → List (List ℕ) → Item → Type 0
HasWords kind.Lui words i = OfOne words (λ rd. form.Lui rd) IsPlain i
HasWords kind.Auipc words i = OfOne words (λ rd. form.Auipc rd) IsPlain i
HasWords kind.Jal words i = OfOne words (λ rd. form.Jal rd) IsTarget i
HasWords kind.Jalr words i = OfBase words (λ rd rs1. form.Jalr rd rs1) i
HasWords (kind.Branch op) words i = OfTwo words (λ rs1 rs2. form.Branch op rs1 rs2) IsTarget i
HasWords (kind.Load op) words i = OfBase words (λ rd rs1. form.Load op rd rs1) i
HasWords (kind.Store op) words i = OfBase words (λ rs2 rs1. form.Store op rs1 rs2) i
HasWords (kind.Imm op) words i = OfTwo words (λ rd rs1. form.Imm op rd rs1) IsPlain i
HasWords (kind.Reg op) words i = OfThree words (λ rd rs1 rs2. form.Reg op rd rs1 rs2) i
HasWords kind.Fence words i = OfWord words form.Fence IsPlain i
HasWords kind.Ecall words i = OfNothing words form.Ecall i
HasWords kind.Ebreak words i = OfNothing words form.Ebreak i
HasWords kind.Word words i = OfWord words form.Word IsPlain i
HasWords kind.Entry words i = OfWord words form.Entry IsTarget i
HasWords kind.Data words i = OfBytes words i

-- The words are those of the item: the name of a kind and its words, or no word at all.
abbrev pub IsItem : List (List ℕ) → Item → Type 0
IsItem [] i = i ≡ item form.Nothing Nothing
IsItem (name ∷ words) i = (k : Kind) × IsKind name k × HasWords k words i

-- ---- the lines

-- a `:` stands second
abbrev pub HasColon : List Word → Type 0
HasColon (w ∷ colon ∷ words) = colon.text ≡ codes ":"
HasColon _ = ⊥

-- The words are an item's, which the statement has, with the word of its number or label.
pub record Says (words : List Word) (s : Statement) : Type 0 where
  pub says : IsItem (texts words) s.item
  pub operand_is : s.operand ≡ unwrap_or (slice_get words (operand_index s.item.form)) no_word

-- The words of a line are a statement: an item, and perhaps a name and `:` in front of it, its label.
pub data IsStatement (words : List Word) (s : Statement) : Type 0 where
  bare : ¬ HasColon words → s.label ≡ None → Says words s → IsStatement words s
  labelled : (w colon : Word) (more : List Word) → words ≡ w ∷ colon ∷ more → colon.text ≡ codes ":" → is_name w.text ≡ true
      → s.label ≡ Some w → Says more s → IsStatement words s

-- the line has the statement
abbrev pub HasStatement : List ℕ → Statement → Type 0
HasStatement line s = IsStatement (cut 1 line) s

-- each line has its statement
abbrev pub HaveStatements : List (List ℕ) → List Statement → Type 0
HaveStatements [] [] = Unit {0}
HaveStatements [] (s ∷ statements) = ⊥
HaveStatements (line ∷ lines) [] = ⊥
HaveStatements (line ∷ lines) (s ∷ statements) = HasStatement line s × HaveStatements lines statements
