-- Which faults a text has can be told: the first of a list with a property, labels, forms, and numbers in range.
use Rattle.std.proofs.Common.{◌≡◌, ℕ, zero, suc, ◌+◌, ◌%◌, ◌^◌, ◌<◌, ◌≤◌, ℤ, pos, negsuc, neg_ℤ, List, [], ◌∷◌, Option, Some, None, refl, sym, ap, ◌∙◌, ◌⊎◌, inl, inr, ⊎_elim, arith, subst}
use Rattle.std.specs.Int.Signed.{◌<ℤ◌, ◌≤ℤ◌, clash_ℤ}
use Rattle.std.specs.List.{slice_get}
use Rattle.std.proofs.lemmas.Bool.{cases_lt}
use Rattle.std.proofs.lemmas.Int.{by_lt_z}
use Rattle.std.proofs.lemmas.Option.{same_Some}
use Rattle.ckc_base.specs.Words.{word_of}
use Rattle.ckc_base.proofs.Told.{Told, SomeTold, turned, if_so, both, one_at_least, denied, less, at_most, equal, same_list}
use Rattle.ckc_image.specs.Image.{EntryFits}
use Rattle.ckc_rv_operations.specs.declared.operations.ImmOp.{ImmOp}
use Rattle.ckc_rv_operations.specs.declared.operations.ImmOp.TheVariants.{Slli, Srli, Srai}
use Rattle.ckc_rv.specs.Table.{IsSigned, IsOffset, IsCount, IsImmediate}
use Rattle.ckc_asm.specs.declared.items.Form.{Form}
use Rattle.ckc_asm.specs.declared.items.Form.TheVariants as form
use Rattle.ckc_asm.specs.declared.items.Operand.{Operand}
use Rattle.ckc_asm.specs.declared.items.Operand.TheVariants.{Nothing, Number, Named}
use Rattle.ckc_asm_lines.specs.Assembled.{distance}
use Rattle.ckc_asm.specs.Cut.{Word}
use Rattle.ckc_asm.specs.Items.{Statement}
use Rattle.ckc_asm.specs.code.Found.{reading}
use Rattle.ckc_asm.specs.Grammar.{HasStatement}
use Rattle.ckc_asm.specs.Program.{size_of, address_of, HasLabel, IsLabelAt, IsWordOf, IsValue, IsEntry, AreStatements}
use Rattle.ckc_asm.specs.Faults.{IsFirstWith, NoneHas, HasEntry, IsSecondEntry, HasNoForm, HasOldLabel, NamesNothing, HasNoWord}
use Rattle.ckc_asm.specs.Ranges.{IsNatural, IsInRange}
use Rattle.ckc_asm.proofs.Grammatical.{reading_found, reading_made}
use Rattle.ckc_asm.proofs.Ranges.{words_by_range}

-- ---- lists

-- A search from the front: the first of a list with a property, or none has it.
pub first_or_none : {A : Type 0} (P : ℕ → A → Type 0) (xs : List A) → ((k : ℕ) (x : A) → slice_get xs k ≡ Some x → Told (P k x))
    → ((k : ℕ) × (x : A) × IsFirstWith P xs k x) ⊎ NoneHas P xs
first_or_none {A} P [] told = inr (λ k x at p. let z : None ≡ Some x = at in cc)
first_or_none {A} P (first ∷ xs) told = with_first (told 0 first refl) (first_or_none (λ k. P (suc k)) xs (λ k x at. told (suc k) x at))
  where
    in_rest : ¬ P 0 first → ((k : ℕ) × (x : A) × IsFirstWith (λ k. P (suc k)) xs k x) ⊎ NoneHas (λ k. P (suc k)) xs
        → ((k : ℕ) × (x : A) × IsFirstWith P (first ∷ xs) k x) ⊎ NoneHas P (first ∷ xs)
    in_rest wrong (inl f) = inl (suc f.0, f.1, record { stands = f.2.stands; holds = f.2.holds; none_before = before })
      where
        before : (j : ℕ) (y : A) → j < suc f.0 → slice_get (first ∷ xs) j ≡ Some y → P j y → ⊥
        before zero y l at p = wrong (subst (P 0) (sym (same_Some first y at)) p)
        before (suc j) y l at p = f.2.none_before j y (omega (arith, l)) at p
    in_rest wrong (inr none) = inr here
      where
        here : NoneHas P (first ∷ xs)
        here zero y at p = wrong (subst (P 0) (sym (same_Some first y at)) p)
        here (suc j) y at p = none j y at p

    with_first : Told (P 0 first) → ((k : ℕ) × (x : A) × IsFirstWith (λ k. P (suc k)) xs k x) ⊎ NoneHas (λ k. P (suc k)) xs
        → ((k : ℕ) × (x : A) × IsFirstWith P (first ∷ xs) k x) ⊎ NoneHas P (first ∷ xs)
    with_first (inl p) rest = inl (0, first, record { stands = refl; holds = p; none_before = λ j y l. absurd (omega (arith, l)) })
    with_first (inr wrong) rest = in_rest wrong rest

-- an element with a property stands in the list
abbrev pub Stands : {A : Type 0} → (ℕ → A → Type 0) → List A → Type 0
Stands {A} P xs = (k : ℕ) × (x : A) × (slice_get xs k ≡ Some x) × P k x

-- whether one with a property stands in the list
pub stands_told : {A : Type 0} (P : ℕ → A → Type 0) (xs : List A) → ((k : ℕ) (x : A) → slice_get xs k ≡ Some x → Told (P k x)) → Told (Stands P xs)
stands_told {A} P xs told = go (first_or_none P xs told)
  where
    go : ((k : ℕ) × (x : A) × IsFirstWith P xs k x) ⊎ NoneHas P xs → Told (Stands P xs)
    go (inl f) = inl (f.0, f.1, f.2.stands, f.2.holds)
    go (inr none) = inr (λ h. none h.0 h.1 h.2 h.3)

-- ---- lines

-- whether a line has a statement with a property
statement_told : (line : List ℕ) (Q : Statement → Type 0) → ((s : Statement) → Told (Q s)) → Told ((s : Statement) × HasStatement line s × Q s)
statement_told line Q told = go (reading line) refl
  where
    found : (s : Statement) → reading line ≡ Some s → Told (Q s) → Told ((s : Statement) × HasStatement line s × Q s)
    found s e (inl q) = inl (s, reading_found line s e, q)
    found s e (inr wrong) = inr (λ h. wrong (subst Q (same_Some h.0 s (sym (reading_made line h.0 h.1) ∙ e)) h.2))

    go : (o : Option Statement) → reading line ≡ o → Told ((s : Statement) × HasStatement line s × Q s)
    go None e = inr (λ h. let z : None ≡ Some h.0 = sym e ∙ reading_made line h.0 h.1 in cc)
    go (Some s) e = found s e (told s)

-- whether a form is that of `.entry`
pub is_entry : (f : Form) → Told (IsEntry f)
is_entry form.Entry = inl tt
is_entry _ = inr (λ h. h)

-- whether a line is a `.entry`
has_entry : (line : List ℕ) → Told (HasEntry line)
has_entry line = statement_told line (λ s. IsEntry s.item.form) (λ s. is_entry s.item.form)

-- whether a line has no statement
has_none : (line : List ℕ) → Told ((s : Statement) → ¬ HasStatement line s)
has_none line = go (reading line) refl
  where
    go : (o : Option Statement) → reading line ≡ o → Told ((s : Statement) → ¬ HasStatement line s)
    go None e = inl (λ s h. let z : None ≡ Some s = sym e ∙ reading_made line s h in cc)
    go (Some s) e = inr (λ never. never s (reading_found line s e))

-- whether a line is a second `.entry`
is_second : (lines : List (List ℕ)) (k : ℕ) (line : List ℕ) → Told (IsSecondEntry lines k line)
is_second lines k line = turned
    (λ h. (h.0.0, h.0.1, h.0.3.0, h.0.2, h.0.3.1, h.1))
    (λ h. ((h.0, h.1, h.3, (h.2, h.4)), h.5))
    (both (stands_told (λ j earlier. (j < k) × HasEntry earlier) lines (λ j earlier at. both (less j k) (has_entry earlier))) (has_entry line))

-- whether a line has a fault of form
pub has_no_form : (lines : List (List ℕ)) (k : ℕ) (line : List ℕ) → Told (HasNoForm lines k line)
has_no_form lines k line = one_at_least (has_none line) (is_second lines k line)

-- ---- labels

-- whether a statement has the label
has_label : (s : Statement) (name : List ℕ) → Told (HasLabel s name)
has_label s name = go s.label refl
  where
    go : (o : Option Word) → s.label ≡ o → Told (HasLabel s name)
    go None e = inr (λ h. let z : None ≡ Some h.0 = sym e ∙ h.1 in cc)
    go (Some w) e = turned
        (λ same. (w, e, same))
        (λ h. let same : w ≡ h.0 = same_Some w h.0 (sym e ∙ h.1) in subst (λ (v : Word). v.text ≡ name) (sym same) h.2)
        (same_list equal w.text name)

-- whether an earlier statement has the label of a statement
pub has_old_label : (statements : List Statement) (k : ℕ) (s : Statement) → Told (HasOldLabel statements k s)
has_old_label statements k s = go s.label refl
  where
    go : (o : Option Word) → s.label ≡ o → Told (HasOldLabel statements k s)
    go None e = inr (λ h. let z : None ≡ Some h.6.0 = sym e ∙ h.6.1 in cc)
    go (Some w) e = turned there back (stands_told (λ j t. (j < k) × HasLabel t w.text) statements (λ j t at. both (less j k) (has_label t w.text)))
      where
        there : Stands (λ j t. (j < k) × HasLabel t w.text) statements → HasOldLabel statements k s
        there h = (w.text, h.0, h.1, h.3.0, h.2, h.3.1, (w, e, refl))

        back : HasOldLabel statements k s → Stands (λ j t. (j < k) × HasLabel t w.text) statements
        back h =
            let same : w ≡ h.6.0 = same_Some w h.6.0 (sym e ∙ h.6.1) in
            let name : h.0 ≡ w.text = sym h.6.2 ∙ subst (λ (v : Word). v.text ≡ w.text) same refl in
            (h.1, h.2, h.4, (h.3, subst (HasLabel h.2) name h.5))

-- a label stands at an address, or at none
pub label_told : (statements : List Statement) (name : List ℕ) → SomeTold (λ address. IsLabelAt statements name address)
label_told statements name = go (stands_told (λ k s. HasLabel s name) statements (λ k s at. has_label s name))
  where
    go : Told (Stands (λ k s. HasLabel s name) statements) → SomeTold (λ address. IsLabelAt statements name address)
    go (inl h) = inl (address_of statements h.0, (h.0, h.1, h.2, h.3, refl))
    go (inr wrong) = inr (λ address h. wrong (h.0, h.1, h.2, h.3))

-- whether an operand is a name
is_named : (o : Operand) → Told (o ≡ Named)
is_named Named = inl refl
is_named Nothing = inr (λ e. let z : Nothing ≡ Named = e in cc)
is_named (Number n) = inr (λ e. let z : Number n ≡ Named = e in cc)

-- whether a statement names a label that stands nowhere
pub names_nothing : (statements : List Statement) (k : ℕ) (s : Statement) → Told (NamesNothing statements k s)
names_nothing statements k s = both (is_named s.item.operand) (nowhere (label_told statements s.operand.text))
  where
    nowhere : SomeTold (λ address. IsLabelAt statements s.operand.text address) → Told ((address : ℕ) → IsLabelAt statements s.operand.text address → ⊥)
    nowhere (inl h) = inr (λ wrong. wrong h.0 h.1)
    nowhere (inr wrong) = inl wrong

-- ---- numbers

-- one integer is less than another, or not
integer_less : (a b : ℤ) → Told (a <ℤ b)
integer_less a b = by_lt_z a b (λ l. inl l) (λ g. inr (λ l. clash_ℤ l g))

-- one integer is at most another, or not
integer_at_most : (a b : ℤ) → Told (a ≤ℤ b)
integer_at_most a b = by_lt_z b a (λ l. inr (λ g. clash_ℤ l g)) (λ g. inl g)

-- whether an integer is a natural number with a property
natural_told : (P : ℕ → Type 0) → ((n : ℕ) → Told (P n)) → (z : ℤ) → Told ((n : ℕ) × (z ≡ pos n) × P n)
natural_told P told (pos m) = turned (λ p. (m, refl, p)) (λ h. let e : pos m ≡ pos h.0 = h.1 in let same : m ≡ h.0 = cc in subst P (sym same) h.2) (told m)
natural_told P told (negsuc m) = inr (λ h. let e : negsuc m ≡ pos h.0 = h.1 in cc)

-- whether a number is below a limit
is_natural : (limit : ℕ) (z : ℤ) → Told (IsNatural limit z)
is_natural limit z = natural_told (λ n. n < limit) (λ n. less n limit) z

-- whether a number fits bits with a sign
is_signed : (half : ℕ) (z : ℤ) → Told (IsSigned half z)
is_signed half z = both (integer_at_most (neg_ℤ (pos half)) z) (integer_less z (pos half))

-- whether a number fits bits with a sign, and is even
is_offset : (half : ℕ) (z : ℤ) → Told (IsOffset half z)
is_offset half z = both (is_signed half z) (equal (word_of z % 2) 0)

-- whether a number counts a shift
is_count : (z : ℤ) → Told (IsCount z)
is_count z = both (integer_at_most (pos 0) z) (integer_less z (pos 32))

-- whether an immediate is in the range of its operation
is_immediate : (op : ImmOp) (z : ℤ) → Told (IsImmediate op z)
is_immediate Slli z = is_count z
is_immediate Srli z = is_count z
is_immediate Srai z = is_count z
is_immediate _ z = is_signed (2 ^ 11) z

-- whether a number is in the range of its form
is_in_range : (f : Form) (z : ℤ) → Told (IsInRange f z)
is_in_range (form.Lui rd) z = is_natural (2 ^ 20) z
is_in_range (form.Auipc rd) z = is_natural (2 ^ 20) z
is_in_range (form.Jal rd) z = is_offset (2 ^ 20) z
is_in_range (form.Jalr rd rs1) z = is_signed (2 ^ 11) z
is_in_range (form.Branch op rs1 rs2) z = is_offset (2 ^ 12) z
is_in_range (form.Load op rd rs1) z = is_signed (2 ^ 11) z
is_in_range (form.Store op rs1 rs2) z = is_signed (2 ^ 11) z
is_in_range (form.Imm op rd rs1) z = is_immediate op z
is_in_range form.Fence z = is_natural (2 ^ 8) z
is_in_range form.Word z = is_natural (2 ^ 32) z
is_in_range _ z = inl tt

-- what is not at most is more
pub not_at_most : (a b : ℕ) → ¬ (a ≤ b) → b < a
not_at_most a b wrong = ⊎_elim (λ (lt : b < a). lt) (λ (le : a ≤ b). absurd (wrong le)) (cases_lt b a)

-- whether an entry is an instruction's place
pub entry_told : (z : ℤ) (size : ℕ) → Told ((entry : ℕ) × (z ≡ pos entry) × EntryFits entry size)
entry_told z size = natural_told (λ entry. EntryFits entry size)
    (λ entry. turned (λ h. (h.0, h.1.0, h.1.1)) (λ h. (h.0, (h.1, h.2))) (both (equal (entry % 4) 0) (both (at_most 4096 entry) (less entry (4096 + size)))))
    z

-- ---- words

module _ (text : List ℕ) (statements : List Statement) (formed : AreStatements text statements) (k : ℕ) (s : Statement) (at : slice_get statements k ≡ Some s) where
  -- whether a number of an instruction has a word
  pub word_told : (z : ℤ) → size_of s ≡ 4 → Told ((word : ℕ) × IsWordOf s.item.form z word)
  word_told z four = let w = words_by_range text statements k s z formed at four in turned w.1 w.0 (is_in_range s.item.form z)

  -- whether a number of an instruction has no word
  no_word_for : (z : ℤ) → size_of s ≡ 4 → Told ((word : ℕ) → IsWordOf s.item.form z word → ⊥)
  no_word_for z four = turned (λ wrong word w. wrong (word, w)) (λ none h. none h.0 h.1) (denied (word_told z four))

  -- the number of the statement has no word
  abbrev Lacking : Operand → Type 0
  Lacking o = (z : ℤ) × IsValue statements (address_of statements k) s.operand.text o z × ((word : ℕ) → IsWordOf s.item.form z word → ⊥)

  -- whether the number of an instruction has no word
  lacking : size_of s ≡ 4 → (o : Operand) → Told (Lacking o)
  lacking four Nothing = turned
      (λ none. (pos 0, refl, none))
      (λ h. subst (λ (z : ℤ). (word : ℕ) → IsWordOf s.item.form z word → ⊥) h.1 h.2)
      (no_word_for (pos 0) four)
  lacking four (Number n) = turned
      (λ none. (n, refl, none))
      (λ h. subst (λ (z : ℤ). (word : ℕ) → IsWordOf s.item.form z word → ⊥) h.1 h.2)
      (no_word_for n four)
  lacking four Named = turned
      (λ h. (far h.0, (address_of statements h.0, (h.0, h.1, h.2, h.3.0, refl), refl), h.3.1))
      back
      (stands_told (λ j t. HasLabel t s.operand.text × ((word : ℕ) → IsWordOf s.item.form (far j) word → ⊥)) statements
      (λ j t there. both (has_label t s.operand.text) (no_word_for (far j) four)))
    where
      far : ℕ → ℤ
      far j = distance (address_of statements k) (address_of statements j)

      back : Lacking Named → Stands (λ j t. HasLabel t s.operand.text × ((word : ℕ) → IsWordOf s.item.form (far j) word → ⊥)) statements
      back h =
          let label = h.1.1 in
          let e : h.0 ≡ far label.0 = h.1.2 ∙ ap (distance (address_of statements k)) label.4 in
          (label.0, label.1, label.2, (label.3, subst (λ (z : ℤ). (word : ℕ) → IsWordOf s.item.form z word → ⊥) e h.2))

  -- whether the number of a statement has no word
  pub has_no_word : Told (HasNoWord statements k s)
  has_no_word = turned (λ h. (h.1.0, h.0, h.1.1, h.1.2)) (λ h. (h.1, (h.0, h.2, h.3)))
      (if_so (equal (size_of s) 4) (λ four. lacking four s.item.operand))
