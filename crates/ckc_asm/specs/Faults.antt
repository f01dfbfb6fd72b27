-- The first fault of a text of assembly. The codes are judged in the order E201, E801, E803, E802, E804, E805, and
-- each at the first line where it holds. Lines and statements are counted from 0 here.
use Rattle.std.specs.Prelude.{◌≡◌, ◌⊎◌, ℕ, ◌+◌, ◌<◌, ◌≤◌, ℤ, pos, List, length, slice_get, Some, sum_by}
use Rattle.std.specs.List.{flat_map}
use Rattle.ckc_base.specs.MemoryMap.{longest_code, longest_data}
use Rattle.ckc_base.specs.declared.places.Pos.{Pos}
use Rattle.ckc_base.specs.Places.{start, long_text, longest_text}
use Rattle.ckc_image.specs.Image.{EntryFits}
use Rattle.ckc_asm.specs.declared.items.Operand.TheVariants.{Named}
use Rattle.ckc_asm.specs.Cut.{Word, lines_of}
use Rattle.ckc_asm.specs.Items.{Statement}
use Rattle.ckc_asm.specs.Grammar.{HasStatement}
use Rattle.ckc_asm.specs.Program.{size_of, address_of, HasLabel, IsLabelAt, IsWordOf, IsValue, data_bytes, IsEntry, Enters, AreStatements}

-- ---- places

-- column 1 of a line
abbrev pub line_front : ℕ → Pos
line_front k = record { line = k + 1; col = 1 }

-- where a word of a line begins
abbrev pub place_of : ℕ → Word → Pos
place_of k w = record { line = k + 1; col = w.col }

-- ---- the first of a list with a property

-- The k-th of the list has the property, and none before it has.
pub record IsFirstWith {A : Type 0} (P : ℕ → A → Type 0) (xs : List A) (k : ℕ) (x : A) : Type 0 where
  pub stands : slice_get xs k ≡ Some x
  pub holds : P k x
  pub none_before : (j : ℕ) (y : A) → j < k → slice_get xs j ≡ Some y → P j y → ⊥

-- none has it
abbrev pub NoneHas : {A : Type 0} → (ℕ → A → Type 0) → List A → Type 0
NoneHas {A} P xs = (k : ℕ) (x : A) → slice_get xs k ≡ Some x → P k x → ⊥

-- ---- E801: a line of no form, or a second `.entry`

-- the code E801
abbrev pub no_form : ℕ
no_form = 801

-- the line is a `.entry`
abbrev pub HasEntry : List ℕ → Type 0
HasEntry line = (s : Statement) × HasStatement line s × IsEntry s.item.form

-- The line is a `.entry`, and so is an earlier line.
abbrev pub IsSecondEntry : List (List ℕ) → ℕ → List ℕ → Type 0
IsSecondEntry lines k line =
    (j : ℕ) × (earlier : List ℕ) × (j < k) × (slice_get lines j ≡ Some earlier) × HasEntry earlier × HasEntry line

-- The line has no form, or it is a second `.entry`.
abbrev pub HasNoForm : List (List ℕ) → ℕ → List ℕ → Type 0
HasNoForm lines k line = ((s : Statement) → ¬ HasStatement line s) ⊎ IsSecondEntry lines k line

-- each line has a statement, and `.entry` stands once at most
pub record AreFormed (text : List ℕ) (statements : List Statement) : Type 0 where
  pub form : AreStatements text statements
  pub entries : NoneHas (HasNoForm (lines_of text)) (lines_of text)

-- ---- E803: a label a second time

-- the code E803
abbrev pub second_label : ℕ
second_label = 803

-- An earlier statement has the same label.
abbrev pub HasOldLabel : List Statement → ℕ → Statement → Type 0
HasOldLabel statements k s =
    (name : List ℕ) × (j : ℕ) × (t : Statement) × (j < k) × (slice_get statements j ≡ Some t) × HasLabel t name × HasLabel s name

-- ---- E802: a label that stands nowhere

-- the code E802
abbrev pub unknown_label : ℕ
unknown_label = 802

-- The statement names a label that stands nowhere.
abbrev pub NamesNothing : List Statement → ℕ → Statement → Type 0
NamesNothing statements k s =
    (s.item.operand ≡ Named) × ((address : ℕ) → IsLabelAt statements s.operand.text address → ⊥)

-- ---- E804: a number or distance that is odd or out of range, so that no word has it (specs/Ranges.antt has the ranges)

-- the code E804
abbrev pub out_of_range : ℕ
out_of_range = 804

-- The number or distance of the statement fits no word of its form.
abbrev pub HasNoWord : List Statement → ℕ → Statement → Type 0
HasNoWord statements k s =
    (z : ℤ) × (size_of s ≡ 4) × IsValue statements (address_of statements k) s.operand.text s.item.operand z
    × ((word : ℕ) → IsWordOf s.item.form z word → ⊥)

-- ---- E805: the whole is not that of an image

-- the code E805
abbrev pub no_image : ℕ
no_image = 805

-- no instruction; too much code; too many initial bytes; an entry that is no instruction's place
pub data IsNoImage (statements : List Statement) : Type 0 where
  no_code : sum_by size_of statements ≡ 0 → IsNoImage statements
  long_code : longest_code < sum_by size_of statements → IsNoImage statements
  long_data : longest_data < length (flat_map (λ s. data_bytes s.item.form) statements) → IsNoImage statements
  bad_entry : (z : ℤ) → Enters statements z → ((entry : ℕ) → z ≡ pos entry → EntryFits entry (sum_by size_of statements) → ⊥) → IsNoImage statements

-- ---- the order

-- at the word that the first statement with the property has
abbrev pub IsAt : (ℕ → Statement → Type 0) → (Statement → Word → Type 0) → List Statement → Pos → Type 0
IsAt P at statements place = (k : ℕ) × (s : Statement) × (w : Word) × IsFirstWith P statements k s × at s w × (place ≡ place_of k w)

-- The word is the label of the statement.
abbrev pub IsLabel : Statement → Word → Type 0
IsLabel s w = s.label ≡ Some w

-- The word is the number or the named label of the statement.
abbrev pub IsOperand : Statement → Word → Type 0
IsOperand s w = s.operand ≡ w

-- E805, at 1:1
abbrev pub WholeFault : List Statement → ℕ → Pos → Type 0
WholeFault statements code place = IsNoImage statements × (code ≡ no_image) × (place ≡ start)

-- E804, or if that does not hold, E805
abbrev pub NumberFault : List Statement → ℕ → Pos → Type 0
NumberFault statements code place =
    (IsAt (HasNoWord statements) IsOperand statements place × (code ≡ out_of_range))
    ⊎ (NoneHas (HasNoWord statements) statements × WholeFault statements code place)

-- E802, or if that does not hold, the next
abbrev pub NameFault : List Statement → ℕ → Pos → Type 0
NameFault statements code place =
    (IsAt (NamesNothing statements) IsOperand statements place × (code ≡ unknown_label))
    ⊎ (NoneHas (NamesNothing statements) statements × NumberFault statements code place)

-- E803, or if that does not hold, the next
abbrev pub LabelFault : List Statement → ℕ → Pos → Type 0
LabelFault statements code place =
    (IsAt (HasOldLabel statements) IsLabel statements place × (code ≡ second_label))
    ⊎ (NoneHas (HasOldLabel statements) statements × NameFault statements code place)

-- E801, at column 1 of the first line that has no form or is a second `.entry`
abbrev pub FormFault : List ℕ → ℕ → Pos → Type 0
FormFault text code place =
    (k : ℕ) × (line : List ℕ) × IsFirstWith (HasNoForm (lines_of text)) (lines_of text) k line × (code ≡ no_form) × (place ≡ line_front k)

-- the first fault of a text: its code and its place
pub data IsFirstFault (text : List ℕ) (code : ℕ) (place : Pos) : Type 0 where
  too_long : longest_text < length text → code ≡ long_text → place ≡ start → IsFirstFault text code place
  in_form : length text ≤ longest_text → FormFault text code place → IsFirstFault text code place
  in_whole : length text ≤ longest_text → (statements : List Statement) → AreFormed text statements → LabelFault statements code place → IsFirstFault text code place
