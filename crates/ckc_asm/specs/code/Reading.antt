-- What the passes over a text of assembly have found.
use Rattle.std.specs.Prelude.{◌≡◌, ◌⊎◌, ℕ, ◌<◌, ℤ, pos, Bool, true, List, [], length, map, slice_get, Option, Some, None, sum_by, bytes_eq}
use Rattle.std.specs.Borrow.{Bor}
use Rattle.std.specs.HashMap.{HashMap, get_by}
use Rattle.ckc_base.specs.declared.places.Pos.{Pos}
use Rattle.ckc_image.specs.Image.{EntryFits, word_bytes}
use Rattle.ckc_asm.specs.declared.items.Item.{Item}
use Rattle.ckc_asm.specs.declared.items.Operand.{Operand}
use Rattle.ckc_asm.specs.declared.items.Operand.TheVariants.{Nothing, Number, Named}
use Rattle.ckc_asm_lines.specs.Assembled.{distance}
use Rattle.ckc_asm.specs.Items.{Statement}
use Rattle.ckc_asm.specs.code.Found.{reading}
use Rattle.ckc_asm.specs.Program.{size_of, address_of, IsLabelAt, IsWordOf, IsBytes, IsEntry, bytes_at}
use Rattle.ckc_asm.specs.Faults.{IsFirstWith, NoneHas, line_front, no_form}

-- ---- the lines

abbrev pub readings_in : List (Bor (List ℕ)) → List (Option Statement)
readings_in lines = map reading (map (λ l. l.now) lines)

abbrev pub ReadsEntry : Option Statement → Type 0
ReadsEntry None = ⊥
ReadsEntry (Some s) = IsEntry s.item.form

abbrev pub ReadsSecond : List (Option Statement) → ℕ → Option Statement → Type 0
ReadsSecond lines k line =
    (j : ℕ) × (earlier : Option Statement) × (j < k) × (slice_get lines j ≡ Some earlier) × ReadsEntry earlier × ReadsEntry line

-- a line has no statement, or a second `.entry`
abbrev pub IsUnread : List (Option Statement) → ℕ → Option Statement → Type 0
IsUnread lines k line = (line ≡ None) ⊎ ReadsSecond lines k line

-- what `.entry` says is a number or a label
abbrev pub HasTarget : Item → Type 0
HasTarget i = IsEntry i.form → i.operand ≡ Nothing → ⊥

abbrev pub HaveTargets : List Statement → Type 0
HaveTargets statements = (k : ℕ) (s : Statement) → slice_get statements k ≡ Some s → HasTarget s.item

-- The lines have these statements, and no line has a fault of form.
pub record AreRead (lines : List (Option Statement)) (statements : List Statement) : Type 0 where
  pub form : lines ≡ map (λ s. Some s) statements
  pub entries : NoneHas (IsUnread lines) lines
  pub targets : HaveTargets statements

-- the first line with a fault of form
abbrev pub IsFormFault : List (Option Statement) → ℕ → Pos → Type 0
IsFormFault lines code place =
    (k : ℕ) × (line : Option Statement) × IsFirstWith (IsUnread lines) lines k line × (code ≡ no_form) × (place ≡ line_front k)

-- the line has no statement, or a second `.entry`
abbrev pub IsRefusedLine : Bool → Option Statement → Type 0
IsRefusedLine entered line = (line ≡ None) ⊎ ((entered ≡ true) × ReadsEntry line)

-- ---- the labels

-- the addresses of labels by their names
abbrev pub known : {S : Type 0} → HashMap (Bor (List ℕ)) ℕ S → List ℕ → Option ℕ
known m name = get_by (λ k. bytes_eq name k.now) m

-- the table has exactly the labels, each where it stands
pub record IsExact (at : List ℕ → Option ℕ) (statements : List Statement) : Type 0 where
  pub sound : (name : List ℕ) (address : ℕ) → at name ≡ Some address → IsLabelAt statements name address
  pub complete : (name : List ℕ) (address : ℕ) → IsLabelAt statements name address → at name ≡ Some address

-- the number of an item at an address by the table
abbrev pub ValueIs : (List ℕ → Option ℕ) → ℕ → List ℕ → Operand → ℤ → Type 0
ValueIs at address name Nothing z = z ≡ pos 0
ValueIs at address name (Number n) z = z ≡ n
ValueIs at address name Named z = (target : ℕ) × (at name ≡ Some target) × (z ≡ distance address target)

-- ---- the code

-- the code of all statements
pub record IsWhole (statements : List Statement) (code : List ℕ) : Type 0 where
  pub whole : length code ≡ sum_by size_of statements
  pub each : (k : ℕ) (s : Statement) → slice_get statements k ≡ Some s → IsBytes statements (address_of statements k) s (bytes_at statements k s code)

-- no code, or an entry that is no instruction's place
abbrev pub IsNoProgram : ℤ → ℕ → Type 0
IsNoProgram entry len = (len ≡ 0) ⊎ ((place : ℕ) → entry ≡ pos place → EntryFits place len → ⊥)

-- the entry that an `.entry` says by the table
abbrev pub EntryIs : (List ℕ → Option ℕ) → List ℕ → Operand → ℤ → Type 0
EntryIs at name Nothing z = ⊥
EntryIs at name (Number n) z = z ≡ n
EntryIs at name Named z = (target : ℕ) × (at name ≡ Some target) × (z ≡ pos target)

-- the bytes of a statement at an address by the table
abbrev pub StandsFor : (List ℕ → Option ℕ) → ℕ → Statement → List ℕ → Type 0
StandsFor at address s bytes =
    ((size_of s ≡ 0) × (bytes ≡ []))
    ⊎ ((z : ℤ) × (word : ℕ) × (size_of s ≡ 4) × ValueIs at address s.operand.text s.item.operand z × IsWordOf s.item.form z word × (bytes ≡ word_bytes word))

-- no word is the statement's
abbrev pub LacksWord : (List ℕ → Option ℕ) → ℕ → Statement → Type 0
LacksWord at address s =
    (z : ℤ) × (size_of s ≡ 4) × ValueIs at address s.operand.text s.item.operand z × ((word : ℕ) → IsWordOf s.item.form z word → ⊥)
