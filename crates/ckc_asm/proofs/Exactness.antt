-- Reading assembly is an exact phase: a text has parts or a first fault, and never two of them.
use Rattle.std.proofs.Common.{◌≡◌, ℕ, zero, suc, ◌+◌, ◌<◌, ◌≤◌, ℤ, pos, List, [], ◌∷◌, ◌++◌, length, map, Option, Some, None, refl, sym, ◌∙◌, ◌⊎◌, inl, inr, ⊎_elim, arith, subst, sum_by}
use Rattle.std.specs.List.{slice_get, flat_map}
use Rattle.std.proofs.lemmas.Bool.{cases_lt}
use Rattle.std.proofs.lemmas.Option.{same_Some}
use Rattle.ckc_base.specs.declared.places.Pos.{Pos}
use Rattle.ckc_base.specs.declared.places.Refusal.{Refusal}
use Rattle.ckc_base.specs.Phases.{IsExact}
use Rattle.ckc_base.specs.MemoryMap.{longest_code, longest_data}
use Rattle.ckc_base.specs.Places.{start, longest_text}
use Rattle.ckc_base.proofs.Told.{Told, SomeTold, stays, equal, at_most}
use Rattle.ckc_image.specs.Image.{EntryFits, word_bytes}
use Rattle.ckc_rv.specs.Machine.{Parts}
use Rattle.ckc_asm.specs.declared.items.Operand.{Operand}
use Rattle.ckc_asm.specs.declared.items.Operand.TheVariants.{Nothing, Number, Named}
use Rattle.ckc_asm_lines.specs.Assembled.{distance}
use Rattle.ckc_asm.specs.Cut.{cut, lines_of}
use Rattle.ckc_asm.specs.Items.{Statement}
use Rattle.ckc_asm.specs.code.Found.{reading}
use Rattle.ckc_asm.specs.Grammar.{HaveStatements}
use Rattle.ckc_asm.specs.Program as program
use Rattle.ckc_asm.specs.Program.{width_of, size_of, address_of, IsLabelAt, IsValue, IsBytes, no_place, of_word, data_bytes, IsEntry, IsEntryOf, Enters, AreSingle, AreStatements, AsmOf}
use Rattle.ckc_asm.specs.Faults as faults
use Rattle.ckc_asm.specs.Faults.{line_front, place_of, IsFirstWith, NoneHas, HasNoForm, HasOldLabel, NamesNothing, HasNoWord, IsNoImage, NumberFault, NameFault, LabelFault, IsFirstFault}
use Rattle.ckc_asm.specs.Phase.{assembling}
use Rattle.ckc_asm.specs.code.Reading.{HaveTargets, HasTarget, AreRead}
use Rattle.ckc_asm.proofs.Answer.{parts_once, fault_once, parts_or_fault}
use Rattle.ckc_asm.proofs.Decisions.{first_or_none, Stands, stands_told, is_entry, has_no_form, has_old_label, label_told, names_nothing, word_told, has_no_word, entry_told, not_at_most}
use Rattle.ckc_asm.proofs.Grammatical.{entry_statement, reading_found, reading_made, lines_made, none_unread}
use Rattle.ckc_asm.proofs.Judging.{width_is, code_words, are_single}
use Rattle.ckc_asm.proofs.LabelUses.{four_bytes, AreWordsBelow, words_none, words_next, words_all}

-- ---- lists

-- a place below the length has an element
element : {A : Type 0} (xs : List A) (k : ℕ) → k < length xs → (x : A) × (slice_get xs k ≡ Some x)
element [] k h = absurd (omega arith)
element (x ∷ xs) zero h = (x, refl)
element (x ∷ xs) (suc k) h = element xs k (omega arith)

-- what is not nothing is something
some_of : (o : Option Statement) → (o ≡ None → ⊥) → (s : Statement) × (o ≡ Some s)
some_of None h = absurd (h refl)
some_of (Some s) h = (s, refl)

-- if no line has no reading, the lines have statements
read_all : (lines : List (List ℕ)) → ((k : ℕ) (line : List ℕ) → slice_get lines k ≡ Some line → reading line ≡ None → ⊥)
    → (statements : List Statement) × HaveStatements lines statements
read_all [] h = ([], tt)
read_all (line ∷ lines) h =
    let s = some_of (reading line) (h 0 line refl) in
    let rest = read_all lines (λ k l at. h (suc k) l at) in
    (s.0 ∷ rest.0, (reading_found line s.0 s.1, rest.1))

-- what `.entry` says in a text is a number or a label
targets_of : (lines : List (List ℕ)) (statements : List Statement) → HaveStatements lines statements → HaveTargets statements
targets_of [] [] h k s at = absurd (let z : None ≡ Some s = at in cc)
targets_of [] (t ∷ statements) h k s at = absurd h
targets_of (line ∷ lines) [] h k s at = absurd h
targets_of (line ∷ lines) (t ∷ statements) h zero s at =
    let P : Statement → Type 0 = λ u. HasTarget u.item in
    subst P (same_Some t s at) (λ is none. entry_statement (cut 1 line) t h.0 is none)
targets_of (line ∷ lines) (t ∷ statements) h (suc k) s at = targets_of lines statements h.1 k s at

-- ---- from statements without a fault to parts

module _ (text : List ℕ) (statements : List Statement) (form : AreStatements text statements) (names : NoneHas (NamesNothing statements) statements)
    (numbers : NoneHas (HasNoWord statements) statements) where
  -- a label that a statement names stands at an address
  label : (k : ℕ) (s : Statement) → slice_get statements k ≡ Some s → s.item.operand ≡ Named → (address : ℕ) × IsLabelAt statements s.operand.text address
  label k s at e = go (label_told statements s.operand.text)
    where
      go : SomeTold (λ address. IsLabelAt statements s.operand.text address) → (address : ℕ) × IsLabelAt statements s.operand.text address
      go (inl found) = found
      go (inr none) = absurd (names k s at (e, none))

  -- a statement has a number
  value : (k : ℕ) (s : Statement) → slice_get statements k ≡ Some s → (z : ℤ) × IsValue statements (address_of statements k) s.operand.text s.item.operand z
  value k s at = go s.item.operand refl
    where
      go : (o : Operand) → s.item.operand ≡ o → (z : ℤ) × IsValue statements (address_of statements k) s.operand.text o z
      go Nothing e = (pos 0, refl)
      go (Number n) e = (n, refl)
      go Named e = let l = label k s at e in (distance (address_of statements k) l.0, (l.0, l.1, refl))

  -- a statement has bytes
  bytes : (k : ℕ) (s : Statement) → slice_get statements k ≡ Some s → (found : List ℕ) × IsBytes statements (address_of statements k) s found × (length found ≡ size_of s)
  bytes k s at = ⊎_elim
      (λ (z : width_of s.item.form ≡ 0). ([], no_place z refl, sym z))
      (λ (four : width_of s.item.form ≡ 4).
      let v = value k s at in
      let w = stays (word_told text statements form k s at v.0 four) (λ wrong. numbers k s at (v.0, four, v.1, λ word w. wrong (word, w))) in
      (word_bytes w.0, of_word v.0 w.0 v.1 w.1 refl, four_bytes w.0 ∙ sym four))
      (width_is s.item.form)

  -- the first statements have code
  code : (k : ℕ) → k ≤ length statements → (found : List ℕ) × AreWordsBelow statements k found
  code zero h = ([], words_none statements)
  code (suc k) h =
      let below = code k (omega (arith, h)) in
      let s = element statements k (omega (arith, h)) in
      let more = bytes k s.0 s.1 in
      let after = words_next statements k s.0 below.0 more.0 (below.0 ++ more.0) s.1 refl more.2 more.1 (λ bad. numbers k s.0 s.1 bad) below.1 in
      let e : k + 1 ≡ suc k = omega arith in
      (below.0 ++ more.0, subst (λ n. AreWordsBelow statements n (below.0 ++ more.0)) e after)

  -- the program begins at an address
  enters : (z : ℤ) × Enters statements z
  enters = at_entry (stands_told (λ k s. IsEntry s.item.form) statements (λ k s at. is_entry s.item.form))
    where
      there : (k : ℕ) (s : Statement) → slice_get statements k ≡ Some s → IsEntry s.item.form → (o : Operand) → s.item.operand ≡ o → (z : ℤ) × IsEntryOf statements s.operand.text o z
      there k s at is Nothing e = absurd (targets_of (lines_of text) statements form k s at is e)
      there k s at is (Number n) e = (n, refl)
      there k s at is Named e = let l = label k s at e in (pos l.0, (l.0, l.1, refl))

      at_entry : Told (Stands (λ k s. IsEntry s.item.form) statements) → (z : ℤ) × Enters statements z
      at_entry (inl h) = let e = there h.0 h.1 h.2 h.3 h.1.item.operand refl in (e.0, program.there h.0 h.1 h.2 h.3 e.1)
      at_entry (inr none) = (pos 0x1000, program.first (λ k s at is. none (k, s, at, is)) refl)

  -- the initial bytes of the statements
  abbrev initial : List ℕ
  initial = flat_map (λ s. data_bytes s.item.form) statements

  -- parts of the statements, if each size and the entry are right
  made : AreSingle statements → (found : List ℕ) → AreWordsBelow statements (length statements) found → (z : ℤ) → Enters statements z → (entry : ℕ) → z ≡ pos entry
      → EntryFits entry (sum_by size_of statements) → ¬ (sum_by size_of statements ≡ 0) → sum_by size_of statements ≤ longest_code → length initial ≤ longest_data
      → AsmOf text entry found initial
  made single found below z e entry is fits some few short =
      let whole = (words_all statements (length statements) found (omega arith) below).0 in
      let size : length found ≡ sum_by size_of statements = whole.whole in
      let four : 4 ≤ length found = ⊎_elim
      (λ (none : length found < 4). absurd (some (omega (arith, none, size, code_words statements found whole))))
      (λ (h : 4 ≤ length found). h) (cases_lt (length found) 4) in
      record {
        statements = statements;
        form = form;
        single = single;
        image = record { enters = subst (λ (y : ℤ). Enters statements y) is e; whole = whole.whole; each = whole.each; data_is = refl };
        proper = ((code_words statements found whole, four, omega (arith, few, size), short), subst (λ (n : ℕ). EntryFits entry n) (sym size) fits);
      }

  -- the statements are not those of an image, or they have parts
  parts : AreSingle statements → IsNoImage statements ⊎ ((entry : ℕ) × (found : List ℕ) × AsmOf text entry found initial)
  parts single = by_code (equal (sum_by size_of statements) 0) (at_most (sum_by size_of statements) longest_code) (at_most (length initial) longest_data)
    where
      z : (z : ℤ) × Enters statements z
      z = enters

      found : (found : List ℕ) × AreWordsBelow statements (length statements) found
      found = code (length statements) (omega arith)

      by_entry : ¬ (sum_by size_of statements ≡ 0) → sum_by size_of statements ≤ longest_code → length initial ≤ longest_data
          → Told ((entry : ℕ) × (z.0 ≡ pos entry) × EntryFits entry (sum_by size_of statements)) → IsNoImage statements ⊎ ((entry : ℕ) × (found : List ℕ) × AsmOf text entry found initial)
      by_entry some few short (inr wrong) = inl (faults.bad_entry z.0 z.1 (λ entry is fits. wrong (entry, is, fits)))
      by_entry some few short (inl e) = inr (e.0, found.0, made single found.0 found.1 z.0 z.1 e.0 e.1 e.2 some few short)

      by_code : Told (sum_by size_of statements ≡ 0) → Told (sum_by size_of statements ≤ longest_code) → Told (length initial ≤ longest_data)
          → IsNoImage statements ⊎ ((entry : ℕ) × (found : List ℕ) × AsmOf text entry found initial)
      by_code (inl none) few short = inl (faults.no_code none)
      by_code (inr some) (inr long) short = inl (faults.long_code (not_at_most (sum_by size_of statements) longest_code long))
      by_code (inr some) (inl few) (inr long) = inl (faults.long_data (not_at_most (length initial) longest_data long))
      by_code (inr some) (inl few) (inl short) = by_entry some few short (entry_told z.0 (sum_by size_of statements))

-- ---- from a text to its parts or its first fault

-- parts that the text makes, or a refusal
abbrev OneOfBoth : List ℕ → Type 0
OneOfBoth text = ((parts' : Parts) × assembling.Makes text parts') ⊎ ((r : Refusal) × assembling.Refuses text r)

module _ (text : List ℕ) (short : length text ≤ longest_text) (formed : NoneHas (HasNoForm (lines_of text)) (lines_of text)) (ss : List Statement)
    (have : AreStatements text ss) where
  refuse : (code : ℕ) (place : Pos) → LabelFault ss code place → OneOfBoth text
  refuse code place f = inr (record { code = code; pos = place }, faults.in_whole short ss (record { form = have; entries = formed }) f)

  -- no fault of labels, names and numbers: parts or E805
  in_whole : NoneHas (HasOldLabel ss) ss → NoneHas (NamesNothing ss) ss → NoneHas (HasNoWord ss) ss → OneOfBoth text
  in_whole labels names numbers = go (parts text ss have names numbers (are_single (map reading (lines_of text)) ss read labels))
    where
      read : AreRead (map reading (lines_of text)) ss
      read = record {
        form = lines_made (lines_of text) ss have;
        entries = none_unread (lines_of text) formed;
        targets = targets_of (lines_of text) ss have;
      }

      go : IsNoImage ss ⊎ ((entry : ℕ) × (found : List ℕ) × AsmOf text entry found (flat_map (λ s. data_bytes s.item.form) ss)) → OneOfBoth text
      go (inl f) = refuse 805 start (inr (labels, inr (names, inr (numbers, (f, refl, refl)))))
      go (inr p) = inl (record { entry = p.0; code = p.1; initial = flat_map (λ s. data_bytes s.item.form) ss }, (short, p.2))

  -- no fault of labels and names: E804 or the next
  in_numbers : NoneHas (HasOldLabel ss) ss → NoneHas (NamesNothing ss) ss → ((k : ℕ) × (s : Statement) × IsFirstWith (HasNoWord ss) ss k s) ⊎ NoneHas (HasNoWord ss) ss → OneOfBoth text
  in_numbers labels names (inl f) = refuse 804 (place_of f.0 f.1.operand) (inr (labels, inr (names, inl ((f.0, f.1, f.1.operand, f.2, refl, refl), refl))))
  in_numbers labels names (inr numbers) = in_whole labels names numbers

  -- no fault of labels: E802 or the next
  in_names : NoneHas (HasOldLabel ss) ss → ((k : ℕ) × (s : Statement) × IsFirstWith (NamesNothing ss) ss k s) ⊎ NoneHas (NamesNothing ss) ss → OneOfBoth text
  in_names labels (inl f) = refuse 802 (place_of f.0 f.1.operand) (inr (labels, inl ((f.0, f.1, f.1.operand, f.2, refl, refl), refl)))
  in_names labels (inr names) = in_numbers labels names (first_or_none (HasNoWord ss) ss (λ k s at. has_no_word text ss have k s at))

  -- E803 or the next
  in_labels : ((k : ℕ) × (s : Statement) × IsFirstWith (HasOldLabel ss) ss k s) ⊎ NoneHas (HasOldLabel ss) ss → OneOfBoth text
  in_labels (inl f) = refuse 803 (place_of f.0 f.2.holds.6.0) (inl ((f.0, f.1, f.2.holds.6.0, f.2, f.2.holds.6.1, refl), refl))
  in_labels (inr labels) = in_names labels (first_or_none (NamesNothing ss) ss (λ k s at. names_nothing ss k s))

-- E801 or the next
in_forms : (text : List ℕ) → length text ≤ longest_text
    → ((k : ℕ) × (line : List ℕ) × IsFirstWith (HasNoForm (lines_of text)) (lines_of text) k line) ⊎ NoneHas (HasNoForm (lines_of text)) (lines_of text) → OneOfBoth text
in_forms text short (inl f) = inr (record { code = 801; pos = line_front f.0 }, faults.in_form short (f.0, f.1, f.2, refl, refl))
in_forms text short (inr formed) =
    let read = read_all (lines_of text) (λ k line at none. formed k line at (inl (λ s has. (let z : None ≡ Some s = sym none ∙ reading_made line s has in cc)))) in
    in_labels text short formed read.0 read.1 (first_or_none (HasOldLabel read.0) read.0 (λ k s at. has_old_label read.0 k s))

-- a text has parts, or a first fault
one_of_both : (text : List ℕ) → OneOfBoth text
one_of_both text = ⊎_elim
    (λ (more : longest_text < length text). inr (record { code = 201; pos = start }, faults.too_long more refl refl))
    (λ (short : length text ≤ longest_text). in_forms text short (first_or_none (HasNoForm (lines_of text)) (lines_of text) (λ k line at. has_no_form (lines_of text) k line)))
    (cases_lt longest_text (length text))

made_once : (text : List ℕ) (a b : Parts) → assembling.Makes text a → assembling.Makes text b → a ≡ b
made_once text a b x y =
    let same = parts_once text a.entry b.entry a.code b.code a.initial b.initial x.1 y.1 in
    λ j. record { entry = same.entry_is j; code = same.code_is j; initial = same.initial_is j }

refused_once : (text : List ℕ) (r other : Refusal) → assembling.Refuses text r → assembling.Refuses text other → r ≡ other
refused_once text r other f g =
    let same = fault_once text r.code other.code r.pos other.pos f g in
    λ j. record { code = same.code_is j; pos = same.place_is j }

pub assembling_exact : IsExact assembling
assembling_exact = record {
  made_once = made_once;
  refused_once = refused_once;
  never_both = λ text p r m f. parts_or_fault text p.entry p.code p.initial r.code r.pos m.0 m.1 f;
  one_of_both = one_of_both;
}

-- ---- the codes

abbrev IsLate : ℕ → Type 0
IsLate code = (801 ≤ code) × (code ≤ 805)

late : (code n : ℕ) → code ≡ n → 801 ≤ n → n ≤ 805 → IsLate code
late code n e low high = (omega arith, omega arith)

number_code : (statements : List Statement) (code : ℕ) (place : Pos) → NumberFault statements code place → IsLate code
number_code statements code place (inl f) = late code 804 f.1 (omega arith) (omega arith)
number_code statements code place (inr f) = late code 805 f.1.1 (omega arith) (omega arith)

name_code : (statements : List Statement) (code : ℕ) (place : Pos) → NameFault statements code place → IsLate code
name_code statements code place (inl f) = late code 802 f.1 (omega arith) (omega arith)
name_code statements code place (inr f) = number_code statements code place f.1

label_code : (statements : List Statement) (code : ℕ) (place : Pos) → LabelFault statements code place → IsLate code
label_code statements code place (inl f) = late code 803 f.1 (omega arith) (omega arith)
label_code statements code place (inr f) = name_code statements code place f.1

fault_code : (text : List ℕ) (code : ℕ) (place : Pos) → IsFirstFault text code place → (code ≡ 201) ⊎ IsLate code
fault_code text code place (faults.too_long h e at) = inl e
fault_code text code place (faults.in_form h f) = inr (late code 801 f.3 (omega arith) (omega arith))
fault_code text code place (faults.in_whole h s g f) = inr (label_code s code place f)

pub codes : (text : List ℕ) (r : Refusal) → assembling.Refuses text r → (r.code ≡ 201) ⊎ ((801 ≤ r.code) × (r.code ≤ 805))
codes text r f = fault_code text r.code r.pos f
