-- A text of assembly has one answer at most: its parts, or its first fault.
use Rattle.std.proofs.Common.{◌≡◌, ℕ, ◌<◌, ◌≤◌, ℤ, pos, List, [], ◌∷◌, length, map, Option, Some, None, refl, sym, ap, ◌∙◌, ◌⊎◌, inl, inr, ⊎_elim, arith, subst}
use Rattle.std.specs.List.{slice_get}
use Rattle.std.specs.Option.{option_map}
use Rattle.std.proofs.lemmas.Option.{same_Some, slice_get-map}
use Rattle.ckc_base.specs.declared.places.Pos.{Pos}
use Rattle.ckc_image.specs.Image.{EntryFits, IsProper, word_bytes}
use Rattle.ckc_rv.specs.Table.{row_word}
use Rattle.ckc_rv.specs.declared.instructions.Instr.TheVariants as instr
use Rattle.ckc_asm.specs.declared.items.Form.{Form}
use Rattle.ckc_asm.specs.declared.items.Form.TheVariants as form
use Rattle.ckc_asm.specs.declared.items.Operand.{Operand}
use Rattle.ckc_asm.specs.declared.items.Operand.TheVariants.{Nothing, Number, Named}
use Rattle.ckc_asm_lines.specs.Assembled.{distance, AreParts}
use Rattle.ckc_asm.specs.Cut.{Word, cut, lines_of}
use Rattle.ckc_asm.specs.Items.{Statement}
use Rattle.ckc_asm.specs.code.Found.{reading}
use Rattle.ckc_asm.specs.Program as program
use Rattle.ckc_asm.specs.Program.{width_of, size_of, offset_of, address_of, HasLabel, IsLabelAt, IsWordOf, IsValue, IsBytes, no_place, of_word, IsEntry, IsEntryOf, Enters, bytes_at, IsImage, AreSingle, AreStatements, AsmOf}
use Rattle.ckc_asm.specs.Faults as faults
use Rattle.ckc_base.specs.Places.{longest_text}
use Rattle.ckc_asm.specs.Faults.{place_of, HasEntry, IsFirstWith, NoneHas, HasNoForm, HasOldLabel, NamesNothing, HasNoWord, IsNoImage, AreFormed, IsAt, IsLabel, IsOperand, WholeFault, NumberFault, NameFault, LabelFault, FormFault, IsFirstFault}
use Rattle.ckc_asm.specs.code.Outcome.{AreFaults}
use Rattle.ckc_asm.proofs.Grammatical.{reading_found, reading_made, lines_made}
use Rattle.ckc_asm.proofs.Shaped.{named_shape}
use Rattle.ckc_asm_lines.proofs.Cases.{order}
use Rattle.ckc_asm_lines.proofs.WholePieces.{pieces_once}

-- ---- lists

first_once : {A : Type 0} (P : ℕ → A → Type 0) (xs : List A) (j k : ℕ) (x y : A) → IsFirstWith P xs j x → IsFirstWith P xs k y → j ≡ k
first_once P xs j k x y f g = ⊎_elim
    (λ (l : j < k). absurd (g.none_before j x l f.stands f.holds))
    (λ m. ⊎_elim (λ (l : k < j). absurd (f.none_before k y l g.stands g.holds)) (λ (e : j ≡ k). e) m)
    (order j k)

first_same : {A : Type 0} (P : ℕ → A → Type 0) (xs : List A) (j k : ℕ) (x y : A) → IsFirstWith P xs j x → IsFirstWith P xs k y → x ≡ y
first_same P xs j k x y f g = same_Some x y (sym f.stands ∙ (ap (slice_get xs) (first_once P xs j k x y f g) ∙ g.stands))

at_once : (P : ℕ → Statement → Type 0) (at : Statement → Word → Type 0) (statements : List Statement) (a b : Pos)
    → ((s : Statement) (v w : Word) → at s v → at s w → v ≡ w) → IsAt P at statements a → IsAt P at statements b → a ≡ b
at_once P at statements a b one f g =
    let k = first_once P statements f.0 g.0 f.1 g.1 f.3 g.3 in
    let s = first_same P statements f.0 g.0 f.1 g.1 f.3 g.3 in
    let w = one g.1 f.2 g.2 (subst (λ (u : Statement). at u f.2) s f.4) g.4 in
    f.5 ∙ ap (λ n. place_of n f.2) k ∙ ap (place_of g.0) w ∙ sym g.5

label_word : (s : Statement) (v w : Word) → IsLabel s v → IsLabel s w → v ≡ w
label_word s v w e f = same_Some v w (sym e ∙ f)

operand_word : (s : Statement) (v w : Word) → IsOperand s v → IsOperand s w → v ≡ w
operand_word s v w e f = sym e ∙ f

has_not : (P : ℕ → Statement → Type 0) (at : Statement → Word → Type 0) (statements : List Statement) (place : Pos) → IsAt P at statements place → NoneHas P statements → ⊥
has_not P at statements place f none = none f.0 f.1 f.3.stands f.3.holds

-- ---- statements

somes_once : (a b : List Statement) → map (λ s. Some s) a ≡ map (λ s. Some s) b → a ≡ b
somes_once [] [] e = refl
somes_once [] (y ∷ b) e = absurd (let z : [] ≡ Some y ∷ map (λ s. Some s) b = e in cc)
somes_once (x ∷ a) [] e = absurd (let z : Some x ∷ map (λ s. Some s) a ≡ [] = e in cc)
somes_once (x ∷ a) (y ∷ b) e =
    let z : Some x ∷ map (λ s. Some s) a ≡ Some y ∷ map (λ s. Some s) b = e in
    let head : x ≡ y = cc in
    let tail : map (λ s. Some s) a ≡ map (λ s. Some s) b = cc in
    ap (λ h. h ∷ a) head ∙ ap (λ t. y ∷ t) (somes_once a b tail)

statements_once : (text : List ℕ) (a b : List Statement) → AreStatements text a → AreStatements text b → a ≡ b
statements_once text a b e f = somes_once a b (sym (lines_made (lines_of text) a e) ∙ lines_made (lines_of text) b f)

-- the line of a statement
pub line_of : (text : List ℕ) (statements : List Statement) → AreStatements text statements → (k : ℕ) (s : Statement) → slice_get statements k ≡ Some s
    → (line : List ℕ) × (slice_get (lines_of text) k ≡ Some line) × (reading line ≡ Some s)
line_of text statements form k s at = go (slice_get (lines_of text) k) refl
  where
    there : option_map reading (slice_get (lines_of text) k) ≡ Some (Some s)
    there =
        sym (slice_get-map reading (lines_of text) k) ∙ ap (λ l. slice_get l k) (lines_made (lines_of text) statements form)
        ∙ slice_get-map (λ (t : Statement). Some t) statements k ∙ ap (option_map (λ (t : Statement). Some t)) at

    go : (o : Option (List ℕ)) → slice_get (lines_of text) k ≡ o → (line : List ℕ) × (slice_get (lines_of text) k ≡ Some line) × (reading line ≡ Some s)
    go None e = absurd (let z : None ≡ Some (Some s) = sym (ap (option_map reading) e) ∙ there in cc)
    go (Some line) e = (line, e, same_Some (reading line) (Some s) (sym (ap (option_map reading) e) ∙ there))

-- the k-th line is the k-th statement's
line_is : (text : List ℕ) (statements : List Statement) (k : ℕ) (line : List ℕ) → AreStatements text statements → slice_get (lines_of text) k ≡ Some line
    → (s : Statement) × (slice_get statements k ≡ Some s) × (reading line ≡ Some s)
line_is text statements k line form at = go (slice_get statements k) refl
  where
    there : option_map (λ (s : Statement). Some s) (slice_get statements k) ≡ Some (reading line)
    there =
        sym (slice_get-map (λ (s : Statement). Some s) statements k) ∙ sym (ap (λ l. slice_get l k) (lines_made (lines_of text) statements form))
        ∙ slice_get-map reading (lines_of text) k ∙ ap (option_map reading) at

    go : (o : Option Statement) → slice_get statements k ≡ o → (s : Statement) × (slice_get statements k ≡ Some s) × (reading line ≡ Some s)
    go None e = absurd (let z : None ≡ Some (reading line) = sym (ap (option_map (λ (s : Statement). Some s)) e) ∙ there in cc)
    go (Some s) e = (s, e, sym (same_Some (Some s) (reading line) (sym (ap (option_map (λ (s : Statement). Some s)) e) ∙ there)))

-- a line that is a `.entry` has no other statement
entry_is : (line : List ℕ) (s : Statement) → reading line ≡ Some s → HasEntry line → IsEntry s.item.form
entry_is line s e h =
    let P : Statement → Type 0 = λ t. IsEntry t.item.form in
    subst P (same_Some h.0 s (sym (reading_made line h.0 h.1) ∙ e)) h.2

-- ---- words

label_once : (statements : List Statement) (name : List ℕ) (a b : ℕ) → AreSingle statements → IsLabelAt statements name a → IsLabelAt statements name b → a ≡ b
label_once statements name a b single f g =
    f.4 ∙ ap (address_of statements) (single.labels f.0 g.0 f.1 g.1 name f.2 g.2 f.3 g.3) ∙ sym g.4

value_once : (statements : List Statement) (address : ℕ) (name : List ℕ) (operand : Operand) (z y : ℤ) → AreSingle statements
    → IsValue statements address name operand z → IsValue statements address name operand y → z ≡ y
value_once statements address name Nothing z y single f g = f ∙ sym g
value_once statements address name (Number n) z y single f g = f ∙ sym g
value_once statements address name Named z y single f g = f.2 ∙ ap (distance address) (label_once statements name f.0 g.0 single f.1 g.1) ∙ sym g.2

same_pos : (n m : ℕ) (z : ℤ) → z ≡ pos n → z ≡ pos m → n ≡ m
same_pos n m z e f = let h : pos n ≡ pos m = sym e ∙ f in cc

word_once : (f : Form) (z : ℤ) (v w : ℕ) → IsWordOf f z v → IsWordOf f z w → v ≡ w
word_once form.Nothing z v w p q = absurd p
word_once (form.Lui rd) z v w p q = p.2.1 ∙ ap (λ n. row_word (instr.Lui rd n)) (same_pos p.0 q.0 z p.1 q.1) ∙ sym q.2.1
word_once (form.Auipc rd) z v w p q = p.2.1 ∙ ap (λ n. row_word (instr.Auipc rd n)) (same_pos p.0 q.0 z p.1 q.1) ∙ sym q.2.1
word_once (form.Jal rd) z v w p q = p.1 ∙ sym q.1
word_once (form.Jalr rd rs1) z v w p q = p.1 ∙ sym q.1
word_once (form.Branch op rs1 rs2) z v w p q = p.1 ∙ sym q.1
word_once (form.Load op rd rs1) z v w p q = p.1 ∙ sym q.1
word_once (form.Store op rs1 rs2) z v w p q = p.1 ∙ sym q.1
word_once (form.Imm op rd rs1) z v w p q = p.1 ∙ sym q.1
word_once (form.Reg op rd rs1 rs2) z v w p q = p.1 ∙ sym q.1
word_once form.Fence z v w p q = p.2.1 ∙ ap (λ n. row_word (instr.Fence n)) (same_pos p.0 q.0 z p.1 q.1) ∙ sym q.2.1
word_once form.Ecall z v w p q = p.1 ∙ sym q.1
word_once form.Ebreak z v w p q = p.1 ∙ sym q.1
word_once form.Word z v w p q = same_pos v w z p.0 q.0
word_once form.Entry z v w p q = absurd p
word_once (form.Data bytes) z v w p q = absurd p

wide : (f : Form) (z : ℤ) (w : ℕ) → IsWordOf f z w → width_of f ≡ 4
wide form.Nothing z w p = absurd p
wide (form.Lui rd) z w p = refl
wide (form.Auipc rd) z w p = refl
wide (form.Jal rd) z w p = refl
wide (form.Jalr rd rs1) z w p = refl
wide (form.Branch op rs1 rs2) z w p = refl
wide (form.Load op rd rs1) z w p = refl
wide (form.Store op rs1 rs2) z w p = refl
wide (form.Imm op rd rs1) z w p = refl
wide (form.Reg op rd rs1 rs2) z w p = refl
wide form.Fence z w p = refl
wide form.Ecall z w p = refl
wide form.Ebreak z w p = refl
wide form.Word z w p = refl
wide form.Entry z w p = absurd p
wide (form.Data bytes) z w p = absurd p

-- what the bytes of a statement with a place say of it
word_in : (statements : List Statement) (address : ℕ) (s : Statement) (bytes : List ℕ) → size_of s ≡ 4 → IsBytes statements address s bytes
    → (z : ℤ) × (word : ℕ) × IsValue statements address s.operand.text s.item.operand z × IsWordOf s.item.form z word
word_in statements address s bytes four (no_place none e) = absurd (omega (arith, four, none))
word_in statements address s bytes four (of_word z word v w e) = (z, word, v, w)

bytes_once : (statements : List Statement) (address : ℕ) (s : Statement) (x y : List ℕ) → AreSingle statements → IsBytes statements address s x → IsBytes statements address s y → x ≡ y
bytes_once statements address s x y single (no_place n e) (no_place m f) = e ∙ sym f
bytes_once statements address s x y single (no_place n e) (of_word z word v w f) = absurd (omega (arith, n, wide s.item.form z word w))
bytes_once statements address s x y single (of_word z word v w f) (no_place n e) = absurd (omega (arith, n, wide s.item.form z word w))
bytes_once statements address s x y single (of_word z word v w f) (of_word z' word' v' w' g) =
    let e : z' ≡ z = value_once statements address s.operand.text s.item.operand z' z single v' v in
    f ∙ ap word_bytes (word_once s.item.form z word word' w (subst (λ (i : ℤ). IsWordOf s.item.form i word') e w')) ∙ sym g

-- ---- the code is its pieces

code_once : (statements : List Statement) (e f : ℤ) (c d i j : List ℕ) → AreSingle statements → IsImage statements e c i → IsImage statements f d j → c ≡ d
code_once statements e f c d i j single p q = pieces_once size_of statements c d p.whole q.whole
    (λ k s at. bytes_once statements (address_of statements k) s (bytes_at statements k s c) (bytes_at statements k s d) single (p.each k s at) (q.each k s at))

entry_of_once : (statements : List Statement) (name : List ℕ) (operand : Operand) (z y : ℤ) → AreSingle statements → IsEntryOf statements name operand z → IsEntryOf statements name operand y → z ≡ y
entry_of_once statements name Nothing z y single p q = absurd p
entry_of_once statements name (Number n) z y single p q = p ∙ sym q
entry_of_once statements name Named z y single p q = p.2 ∙ ap (λ n. pos n) (label_once statements name p.0 q.0 single p.1 q.1) ∙ sym q.2

pub enters_once : (statements : List Statement) (z y : ℤ) → AreSingle statements → Enters statements z → Enters statements y → z ≡ y
enters_once statements z y single (program.first n e) (program.first m f) = e ∙ sym f
enters_once statements z y single (program.first n e) (program.there k s at is f) = absurd (n k s at is)
enters_once statements z y single (program.there k s at is f) (program.first n e) = absurd (n k s at is)
enters_once statements z y single (program.there j s at is f) (program.there k t at' is' g) =
    let e : j ≡ k = single.entries j k s t at at' is is' in
    let same : s ≡ t = same_Some s t (sym at ∙ (ap (slice_get statements) e ∙ at')) in
    entry_of_once statements t.operand.text t.item.operand z y single (subst (λ (u : Statement). IsEntryOf statements u.operand.text u.item.operand z) same f) g

-- ---- one list of parts

image_once : (statements : List Statement) (e f : ℕ) (c d i j : List ℕ) → AreSingle statements → IsImage statements (pos e) c i → IsImage statements (pos f) d j → AreParts e c i f d j
image_once statements e f c d i j single p q = record {
  entry_is = (let h : pos e ≡ pos f = enters_once statements (pos e) (pos f) single p.enters q.enters in cc);
  code_is = code_once statements (pos e) (pos f) c d i j single p q;
  initial_is = p.data_is ∙ sym q.data_is;
}

pub parts_once : (text : List ℕ) (e f : ℕ) (c d i j : List ℕ) → AsmOf text e c i → AsmOf text f d j → AreParts e c i f d j
parts_once text e f c d i j p q =
    let same : q.statements ≡ p.statements = statements_once text q.statements p.statements q.form p.form in
    image_once p.statements e f c d i j p.single p.image (subst (λ (l : List Statement). IsImage l (pos f) d j) same q.image)

-- ---- one fault

faults_of : (code code' n : ℕ) (place place' : Pos) → code ≡ n → code' ≡ n → place ≡ place' → AreFaults code place code' place'
faults_of code code' n place place' e f h = record { code_is = e ∙ sym f; place_is = h }

number_once : (statements : List Statement) (code code' : ℕ) (place place' : Pos) → NumberFault statements code place → NumberFault statements code' place' → AreFaults code place code' place'
number_once statements code code' place place' (inl f) (inl g) = faults_of code code' 804 place place' f.1 g.1 (at_once (HasNoWord statements) IsOperand statements place place' operand_word f.0 g.0)
number_once statements code code' place place' (inl f) (inr g) = absurd (has_not (HasNoWord statements) IsOperand statements place f.0 g.0)
number_once statements code code' place place' (inr f) (inl g) = absurd (has_not (HasNoWord statements) IsOperand statements place' g.0 f.0)
number_once statements code code' place place' (inr f) (inr g) = faults_of code code' 805 place place' f.1.1 g.1.1 (f.1.2 ∙ sym g.1.2)

name_once : (statements : List Statement) (code code' : ℕ) (place place' : Pos) → NameFault statements code place → NameFault statements code' place' → AreFaults code place code' place'
name_once statements code code' place place' (inl f) (inl g) = faults_of code code' 802 place place' f.1 g.1 (at_once (NamesNothing statements) IsOperand statements place place' operand_word f.0 g.0)
name_once statements code code' place place' (inl f) (inr g) = absurd (has_not (NamesNothing statements) IsOperand statements place f.0 g.0)
name_once statements code code' place place' (inr f) (inl g) = absurd (has_not (NamesNothing statements) IsOperand statements place' g.0 f.0)
name_once statements code code' place place' (inr f) (inr g) = number_once statements code code' place place' f.1 g.1

label_fault_once : (statements : List Statement) (code code' : ℕ) (place place' : Pos) → LabelFault statements code place → LabelFault statements code' place' → AreFaults code place code' place'
label_fault_once statements code code' place place' (inl f) (inl g) = faults_of code code' 803 place place' f.1 g.1 (at_once (HasOldLabel statements) IsLabel statements place place' label_word f.0 g.0)
label_fault_once statements code code' place place' (inl f) (inr g) = absurd (has_not (HasOldLabel statements) IsLabel statements place f.0 g.0)
label_fault_once statements code code' place place' (inr f) (inl g) = absurd (has_not (HasOldLabel statements) IsLabel statements place' g.0 f.0)
label_fault_once statements code code' place place' (inr f) (inr g) = name_once statements code code' place place' f.1 g.1

form_once : (text : List ℕ) (code code' : ℕ) (place place' : Pos) → FormFault text code place → FormFault text code' place' → AreFaults code place code' place'
form_once text code code' place place' f g =
    faults_of code code' 801 place place' f.3 g.3 (f.4 ∙ ap faults.line_front (first_once (HasNoForm (lines_of text)) (lines_of text) f.0 g.0 f.1 g.1 f.2 g.2) ∙ sym g.4)

form_not : (text : List ℕ) (statements : List Statement) (code : ℕ) (place : Pos) → FormFault text code place → AreFormed text statements → ⊥
form_not text statements code place f g = g.entries f.0 f.1 f.2.stands f.2.holds

pub fault_once : (text : List ℕ) (code code' : ℕ) (place place' : Pos) → IsFirstFault text code place → IsFirstFault text code' place' → AreFaults code place code' place'
fault_once text code code' place place' (faults.too_long h e p) (faults.too_long h' e' p') = faults_of code code' 201 place place' e e' (p ∙ sym p')
fault_once text code code' place place' (faults.too_long h e p) (faults.in_form h' f) = absurd (omega arith)
fault_once text code code' place place' (faults.too_long h e p) (faults.in_whole h' s g f) = absurd (omega arith)
fault_once text code code' place place' (faults.in_form h f) (faults.too_long h' e p) = absurd (omega arith)
fault_once text code code' place place' (faults.in_form h f) (faults.in_form h' f') = form_once text code code' place place' f f'
fault_once text code code' place place' (faults.in_form h f) (faults.in_whole h' s g f') = absurd (form_not text s code place f g)
fault_once text code code' place place' (faults.in_whole h s g f) (faults.too_long h' e p) = absurd (omega arith)
fault_once text code code' place place' (faults.in_whole h s g f) (faults.in_form h' f') = absurd (form_not text s code' place' f' g)
fault_once text code code' place place' (faults.in_whole h s g f) (faults.in_whole h' s' g' f') =
    let same : s' ≡ s = statements_once text s' s g'.form g.form in
    label_fault_once s code code' place place' f (subst (λ (l : List Statement). LabelFault l code' place') same f')

-- ---- not both

form_or : (text : List ℕ) (statements : List Statement) (code : ℕ) (place : Pos) → AreStatements text statements → AreSingle statements → FormFault text code place → ⊥
form_or text statements code place form single f = go f.2.holds
  where
    go : HasNoForm (lines_of text) f.0 f.1 → ⊥
    go (inl none) = let l = line_is text statements f.0 f.1 form f.2.stands in none l.0 (reading_found f.1 l.0 l.2)
    go (inr w) =
        let l = line_is text statements f.0 f.1 form f.2.stands in
        let m = line_is text statements w.0 w.1 form w.3 in
        let e : w.0 ≡ f.0 = single.entries w.0 f.0 m.0 l.0 m.1 l.1 (entry_is w.1 m.0 m.2 w.4) (entry_is f.1 l.0 l.2 w.5) in
        omega (arith, e, w.2)

label_or : (statements : List Statement) → AreSingle statements → NoneHas (HasOldLabel statements) statements
label_or statements single k s at old =
    let e : old.1 ≡ k = single.labels old.1 k old.2 s old.0 old.4 at old.5 old.6 in
    omega (arith, e, old.3)

-- a statement that names a label has a word or is `.entry`
name_or : (statements : List Statement) (entry : ℤ) (code initial : List ℕ)
    → ((k : ℕ) (s : Statement) → slice_get statements k ≡ Some s → s.item.operand ≡ Named → (size_of s ≡ 4) ⊎ IsEntry s.item.form)
    → AreSingle statements → IsImage statements entry code initial → NoneHas (NamesNothing statements) statements
name_or statements entry code initial shaped single image k s at bad = ⊎_elim
    (λ (four : size_of s ≡ 4).
    let w = word_in statements (address_of statements k) s (bytes_at statements k s code) four (image.each k s at) in
    let v : IsValue statements (address_of statements k) s.operand.text Named w.0 = subst (λ (o : Operand). IsValue statements (address_of statements k) s.operand.text o w.0) bad.0 w.2 in
    bad.1 v.0 v.1)
    (λ (is : IsEntry s.item.form). by_entry is image.enters)
    (shaped k s at bad.0)
  where
    by_entry : IsEntry s.item.form → Enters statements entry → ⊥
    by_entry is (program.first none e) = none k s at is
    by_entry is (program.there j t there is' f) =
        let e : j ≡ k = single.entries j k t s there at is' is in
        let same : t ≡ s = same_Some t s (sym there ∙ (ap (slice_get statements) e ∙ at)) in
        let g : IsEntryOf statements s.operand.text s.item.operand entry = subst (λ (u : Statement). IsEntryOf statements u.operand.text u.item.operand entry) same f in
        let v : IsEntryOf statements s.operand.text Named entry = subst (λ (o : Operand). IsEntryOf statements s.operand.text o entry) bad.0 g in
        bad.1 v.0 v.1

number_or : (statements : List Statement) (entry : ℤ) (code initial : List ℕ) → AreSingle statements → IsImage statements entry code initial → NoneHas (HasNoWord statements) statements
number_or statements entry code initial single image k s at bad =
    let w = word_in statements (address_of statements k) s (bytes_at statements k s code) bad.1 (image.each k s at) in
    let e : w.0 ≡ bad.0 = value_once statements (address_of statements k) s.operand.text s.item.operand w.0 bad.0 single w.2 bad.2 in
    bad.3 w.1 (subst (λ (z : ℤ). IsWordOf s.item.form z w.1) e w.3)

whole_or : (statements : List Statement) (entry : ℕ) (code initial : List ℕ) → AreSingle statements → IsImage statements (pos entry) code initial
    → IsProper entry code initial → IsNoImage statements → ⊥
whole_or statements entry code initial single image proper (faults.no_code z) = omega (arith, z, image.whole, proper.0)
whole_or statements entry code initial single image proper (faults.long_code l) = omega (arith, l, image.whole, proper.0)
whole_or statements entry code initial single image proper (faults.long_data l) = omega (arith, l, ap length image.data_is, proper.0)
whole_or statements entry code initial single image proper (faults.bad_entry z enters f) =
    f entry (enters_once statements z (pos entry) single enters image.enters) (subst (λ (n : ℕ). EntryFits entry n) image.whole proper.1)

label_fault_or : (statements : List Statement) (entry code' : ℕ) (code initial : List ℕ) (place : Pos)
    → ((k : ℕ) (s : Statement) → slice_get statements k ≡ Some s → s.item.operand ≡ Named → (size_of s ≡ 4) ⊎ IsEntry s.item.form)
    → AreSingle statements → IsImage statements (pos entry) code initial → IsProper entry code initial → LabelFault statements code' place → ⊥
label_fault_or statements entry code' code initial place shaped single image proper (inl f) = has_not (HasOldLabel statements) IsLabel statements place f.0 (label_or statements single)
label_fault_or statements entry code' code initial place shaped single image proper (inr g) = names g.1
  where
    numbers : NumberFault statements code' place → ⊥
    numbers (inl f) = has_not (HasNoWord statements) IsOperand statements place f.0 (number_or statements (pos entry) code initial single image)
    numbers (inr h) = whole_or statements entry code initial single image proper h.1.0

    names : NameFault statements code' place → ⊥
    names (inl f) = has_not (NamesNothing statements) IsOperand statements place f.0 (name_or statements (pos entry) code initial shaped single image)
    names (inr h) = numbers h.1

shaped_in : (text : List ℕ) (statements : List Statement) → AreStatements text statements → (k : ℕ) (s : Statement) → slice_get statements k ≡ Some s
    → s.item.operand ≡ Named → (size_of s ≡ 4) ⊎ IsEntry s.item.form
shaped_in text statements form k s at named = let l = line_of text statements form k s at in named_shape (cut 1 l.0) s l.2 named

pub parts_or_fault : (text : List ℕ) (entry : ℕ) (code initial : List ℕ) (number : ℕ) (place : Pos) → length text ≤ longest_text
    → AsmOf text entry code initial → IsFirstFault text number place → ⊥
parts_or_fault text entry code initial number place short p (faults.too_long h e at) = omega arith
parts_or_fault text entry code initial number place short p (faults.in_form h f) = form_or text p.statements number place p.form p.single f
parts_or_fault text entry code initial number place short p (faults.in_whole h s g f) =
    let same : s ≡ p.statements = statements_once text s p.statements g.form p.form in
    label_fault_or p.statements entry number code initial place (shaped_in text p.statements p.form) p.single p.image p.proper (subst (λ (l : List Statement). LabelFault l number place) same f)
