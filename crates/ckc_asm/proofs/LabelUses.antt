-- Items that name labels, by the table of labels: the names, the words and the entry.
use Rattle.std.proofs.Common.{◌≡◌, ℕ, ◌+◌, ◌<◌, ◌≤◌, ℤ, Bool, true, false, List, [], ◌∷◌, ◌++◌, length, take, drop, Option, Some, None, IsSome, refl, sym, ap, ◌∙◌, ◌⊎◌, inl, inr, ⊎_elim, arith, subst, sum_by, length-append, length-drop}
use Rattle.std.specs.List.{slice_get, flat_map}
use Rattle.std.proofs.lemmas.List.{take_more, take-append-le, drop-append-le, drop_at, take_all, take-take, append-nil}
use Rattle.std.proofs.lemmas.List.Sums.{sum_by-take-le}
use Rattle.std.proofs.lemmas.Grind.{flat_map-append}
use Rattle.std.proofs.lemmas.Option.{same_Some, slice_get_within, get_or_from_slice_get}
use Rattle.ckc_image.specs.Image.{word_bytes}
use Rattle.ckc_base.specs.declared.fault.Fault.{Fault}
use Rattle.ckc_base.specs.declared.fault.Fault.TheVariants as fault
use Rattle.ckc_asm.specs.declared.items.Form.{Form}
use Rattle.ckc_asm.specs.declared.items.Form.TheVariants as form
use Rattle.ckc_asm.specs.declared.items.Operand.{Operand}
use Rattle.ckc_asm.specs.declared.items.Operand.TheVariants.{Nothing, Number, Named}
use Rattle.ckc_asm_lines.specs.Assembled.{distance}
use Rattle.ckc_asm.specs.Items.{Statement}
use Rattle.ckc_asm.specs.Program.{size_of, offset_of, address_of, IsLabelAt, IsWordOf, IsValue, IsBytes, no_place, of_word, data_bytes, IsEntry, IsEntryOf, Enters, bytes_at}
use Rattle.ckc_asm.specs.Program as program
use Rattle.ckc_asm.specs.Faults.{IsFirstWith, NoneHas, NamesNothing, HasNoWord, IsAt, IsOperand}
use Rattle.ckc_asm.specs.code.Outcome.{IfRefused}
use Rattle.ckc_asm.specs.code.Reading.{IsExact, IsWhole, ValueIs, EntryIs, StandsFor, LacksWord}
use Rattle.ckc_asm.proofs.LabelsBelow.{offset_more}
use Rattle.ckc_asm_lines.proofs.Cases.{last_or_before}

none_or_some : (o : Option ℕ) → (o ≡ None) ⊎ ((a : ℕ) × (o ≡ Some a))
none_or_some None = inl refl
none_or_some (Some a) = inr (a, refl)

-- ---- names

-- the first k statements name labels that stand
abbrev pub NoneBelow : (ℕ → Statement → Type 0) → List Statement → ℕ → Type 0
NoneBelow P statements k = (j : ℕ) (s : Statement) → j < k → slice_get statements j ≡ Some s → P j s → ⊥

pub none_at_first : (P : ℕ → Statement → Type 0) (statements : List Statement) → NoneBelow P statements 0
none_at_first P statements j s l there p = absurd (omega arith)

pub none_more : (P : ℕ → Statement → Type 0) (statements : List Statement) (k : ℕ) (s : Statement) → slice_get statements k ≡ Some s → (P k s → ⊥)
    → NoneBelow P statements k → NoneBelow P statements (k + 1)
none_more P statements k s here not below j t l there p = ⊎_elim (λ (b : j < k). below j t b there p)
    (λ (e : j ≡ k).
    let is : s ≡ t = same_Some s t (sym here ∙ (ap (slice_get statements) (sym e) ∙ there)) in
    not (subst (λ (u : Statement). P k u) (sym is) (subst (λ (i : ℕ). P i t) e p)))
    (last_or_before j k l)

pub none_all : (P : ℕ → Statement → Type 0) (statements : List Statement) (k : ℕ) → length statements ≤ k → NoneBelow P statements k → NoneHas P statements
none_all P statements k h below j s there p = below j s (omega (arith, slice_get_within statements j s there)) there p

pub first_here : (P : ℕ → Statement → Type 0) (statements : List Statement) (k : ℕ) (s : Statement) → slice_get statements k ≡ Some s → P k s → NoneBelow P statements k → IsFirstWith P statements k s
first_here P statements k s here p below = record { stands = here; holds = p; none_before = below }

pub unknown_names : (at : List ℕ → Option ℕ) (statements : List Statement) (k : ℕ) (s : Statement) → IsExact at statements → (s.item.operand ≡ Named) × (at s.operand.text ≡ None) → NamesNothing statements k s
unknown_names at statements k s exact h =
    (h.0, λ address stands. (let z : None ≡ Some address = sym h.1 ∙ exact.complete s.operand.text address stands in cc))

pub known_names : (at : List ℕ → Option ℕ) (statements : List Statement) (k : ℕ) (s : Statement) (b : Bool) → IsExact at statements
    → (s.item.operand ≡ Named → at s.operand.text ≡ None → b ≡ true) → b ≡ false → NamesNothing statements k s → ⊥
known_names at statements k s b exact h f bad = ⊎_elim
    (λ (n : at s.operand.text ≡ None). let z : true ≡ false = sym (h bad.0 n) ∙ f in cc)
    (λ w. bad.1 w.0 (exact.sound s.operand.text w.0 w.1))
    (none_or_some (at s.operand.text))

some_is : (o : Option ℕ) (x : ℕ) → o ≡ Some x → IsSome o
some_is o x e = rw e refl

-- a label that an item names is in the table
pub named_known : (at : List ℕ → Option ℕ) (statements : List Statement) (k : ℕ) (s : Statement) → IsExact at statements → slice_get statements k ≡ Some s
    → NoneHas (NamesNothing statements) statements → s.item.operand ≡ Named → IsSome (at s.operand.text)
named_known at statements k s exact here names e = ⊎_elim
    (λ (n : at s.operand.text ≡ None). absurd (names k s here (unknown_names at statements k s exact (e, n))))
    (λ w. some_is (at s.operand.text) w.0 w.1)
    (none_or_some (at s.operand.text))

-- ---- words

pub value_sound : (at : List ℕ → Option ℕ) (statements : List Statement) (address : ℕ) (name : List ℕ) (operand : Operand) (z : ℤ) → IsExact at statements
    → ValueIs at address name operand z → IsValue statements address name operand z
value_sound at statements address name Nothing z exact v = v
value_sound at statements address name (Number n) z exact v = v
value_sound at statements address name Named z exact v = (v.0, exact.sound name v.0 v.1, v.2)

pub value_same : (at : List ℕ → Option ℕ) (statements : List Statement) (address : ℕ) (name : List ℕ) (operand : Operand) (z y : ℤ) → IsExact at statements
    → ValueIs at address name operand z → IsValue statements address name operand y → z ≡ y
value_same at statements address name Nothing z y exact v w = v ∙ sym w
value_same at statements address name (Number n) z y exact v w = v ∙ sym w
value_same at statements address name Named z y exact v w =
    v.2 ∙ ap (λ t. distance address t) (same_Some v.0 w.0 (sym v.1 ∙ exact.complete name w.0 w.1)) ∙ sym w.2

pub four_bytes : (n : ℕ) → length (word_bytes n) ≡ 4
four_bytes n = refl

pub stands_length : (at : List ℕ → Option ℕ) (address : ℕ) (s : Statement) (bytes : List ℕ) → StandsFor at address s bytes → length bytes ≡ size_of s
stands_length at address s bytes h = ⊎_elim
    (λ w. ap length w.1 ∙ sym w.0)
    (λ w. ap length w.5 ∙ four_bytes w.1 ∙ sym w.2)
    h

pub stands_bytes : (at : List ℕ → Option ℕ) (statements : List Statement) (address : ℕ) (s : Statement) (bytes : List ℕ) → IsExact at statements → StandsFor at address s bytes → IsBytes statements address s bytes
stands_bytes at statements address s bytes exact h = ⊎_elim
    (λ w. no_place w.0 w.1)
    (λ w. of_word w.0 w.1 (value_sound at statements address s.operand.text s.item.operand w.0 exact w.3) w.4 w.5)
    h

pub stands_word : (at : List ℕ → Option ℕ) (statements : List Statement) (k : ℕ) (s : Statement) (bytes : List ℕ) → IsExact at statements → StandsFor at (address_of statements k) s bytes
    → HasNoWord statements k s → ⊥
stands_word at statements k s bytes exact h bad = ⊎_elim
    (λ w. absurd (omega (arith, w.0, bad.1)))
    (λ w.
    let same : w.0 ≡ bad.0 = value_same at statements (address_of statements k) s.operand.text s.item.operand w.0 bad.0 exact w.3 bad.2 in
    bad.3 w.1 (subst (λ (z : ℤ). IsWordOf s.item.form z w.1) same w.4))
    h

pub lacks_word : (at : List ℕ → Option ℕ) (statements : List Statement) (k : ℕ) (s : Statement) → IsExact at statements → LacksWord at (address_of statements k) s → HasNoWord statements k s
lacks_word at statements k s exact h = (h.0, h.1, value_sound at statements (address_of statements k) s.operand.text s.item.operand h.0 exact h.2, h.3)

-- the code of the first k statements, each with a word
pub record AreWordsBelow (statements : List Statement) (k : ℕ) (code : List ℕ) : Type 0 where
  pub whole : length code ≡ offset_of statements k
  pub each : (j : ℕ) (s : Statement) → j < k → slice_get statements j ≡ Some s → IsBytes statements (address_of statements j) s (bytes_at statements j s code)
  pub none : NoneBelow (HasNoWord statements) statements k

pub words_none : (statements : List Statement) → AreWordsBelow statements 0 []
words_none statements = record { whole = refl; each = λ j s l there. absurd (omega arith); none = none_at_first (HasNoWord statements) statements }

kept : (n o : ℕ) (xs ys : List ℕ) → o + n ≤ length xs → take n (drop o (xs ++ ys)) ≡ take n (drop o xs)
kept n o xs ys h = rw (drop-append-le o xs ys (omega arith)) (take-append-le n (drop o xs) ys (omega (arith, length-drop o xs)))

offset_before : (statements : List Statement) (j k : ℕ) (s : Statement) → slice_get statements j ≡ Some s → j < k → offset_of statements j + size_of s ≤ offset_of statements k
offset_before statements j k s there h =
    let part : sum_by size_of (take (j + 1) (take k statements)) ≤ sum_by size_of (take k statements) = sum_by-take-le size_of (take k statements) (j + 1) in
    let same : sum_by size_of (take (j + 1) (take k statements)) ≡ offset_of statements (j + 1) = ap (sum_by size_of) (take-take (j + 1) k statements (omega arith)) in
    omega (arith, offset_more statements j s there, part, same)

pub words_next : (statements : List Statement) (k : ℕ) (s : Statement) (code bytes new : List ℕ) → slice_get statements k ≡ Some s → new ≡ code ++ bytes
    → length bytes ≡ size_of s → IsBytes statements (address_of statements k) s bytes → (HasNoWord statements k s → ⊥)
    → AreWordsBelow statements k code → AreWordsBelow statements (k + 1) new
words_next statements k s code bytes new here e len is_bytes word below = record {
  whole = ap length e ∙ length-append code bytes ∙ (omega (arith, offset_more statements k s here, below.whole, len));
  each = λ j t l there. ⊎_elim
      (λ (b : j < k).
      let same : bytes_at statements j t new ≡ bytes_at statements j t code =
      ap (λ c. bytes_at statements j t c) e ∙ kept (size_of t) (offset_of statements j) code bytes (omega (arith, offset_before statements j k t there b, below.whole)) in
      rw same (below.each j t b there))
      (λ (is : j ≡ k).
      let is_s : s ≡ t = same_Some s t (sym here ∙ (ap (slice_get statements) (sym is) ∙ there)) in
      let now : bytes_at statements k s new ≡ bytes =
      ap (λ c. bytes_at statements k s c) e ∙ ap (take (size_of s)) (drop_at code bytes (offset_of statements k) below.whole) ∙ take_all (size_of s) bytes (omega (arith, len)) in
      let P : Statement → Type 0 = λ u. IsBytes statements (address_of statements j) u (bytes_at statements j u new) in
      let Q : ℕ → Type 0 = λ i. IsBytes statements (address_of statements i) s (bytes_at statements i s new) in
      subst P is_s (subst Q (sym is) (rw now is_bytes)))
      (last_or_before j k l);
  none = none_more (HasNoWord statements) statements k s here word below.none;
}

pub words_more : (at : List ℕ → Option ℕ) (statements : List Statement) (k : ℕ) (s : Statement) (code bytes new : List ℕ) (address : ℕ) → IsExact at statements → slice_get statements k ≡ Some s
    → address ≡ address_of statements k → new ≡ code ++ bytes → StandsFor at address s bytes → AreWordsBelow statements k code → AreWordsBelow statements (k + 1) new
words_more at statements k s code bytes new address exact here place e stands0 below =
    let stands : StandsFor at (address_of statements k) s bytes = subst (λ (a : ℕ). StandsFor at a s bytes) place stands0 in
    words_next statements k s code bytes new here e (stands_length at (address_of statements k) s bytes stands)
    (stands_bytes at statements (address_of statements k) s bytes exact stands) (stands_word at statements k s bytes exact stands) below

pub words_all : (statements : List Statement) (k : ℕ) (code : List ℕ) → length statements ≤ k → AreWordsBelow statements k code → IsWhole statements code × NoneHas (HasNoWord statements) statements
words_all statements k code h below = (
  record {
    whole = below.whole ∙ ap (sum_by size_of) (take_all k statements h);
    each = λ j s there. below.each j s (omega (arith, slice_get_within statements j s there)) there;
  },
  none_all (HasNoWord statements) statements k h below.none,
)

pub no_word : (at : List ℕ → Option ℕ) (statements : List Statement) (k : ℕ) (s : Statement) (address : ℕ) (e : Fault) → IsExact at statements → slice_get statements k ≡ Some s
    → address ≡ address_of statements k
    → IfRefused e (λ code place. (code ≡ 804) × (place ≡ record { line = k + 1; col = s.operand.col }) × LacksWord at address s)
    → NoneBelow (HasNoWord statements) statements k → IfRefused e (λ code place. IsAt (HasNoWord statements) IsOperand statements place × (code ≡ 804))
no_word at statements k s address (fault.Refused r) exact here place h below =
    let lacks : LacksWord at (address_of statements k) s = subst (λ (a : ℕ). LacksWord at a s) place h.2 in
    ((k, s, s.operand, first_here (HasNoWord statements) statements k s here (lacks_word at statements k s exact lacks) below, refl, h.1), h.0)
no_word at statements k s address fault.Memory exact here place h below = tt

-- ---- entry and initial bytes

pub entry_sound : (at : List ℕ → Option ℕ) (statements : List Statement) (name : List ℕ) (operand : Operand) (z : ℤ) → IsExact at statements
    → EntryIs at name operand z → IsEntryOf statements name operand z
entry_sound at statements name Nothing z exact v = v
entry_sound at statements name (Number n) z exact v = v
entry_sound at statements name Named z exact v = (v.0, exact.sound name v.0 v.1, v.2)

pub enters_here : (at : List ℕ → Option ℕ) (statements : List Statement) (k : ℕ) (s : Statement) (z : ℤ) → IsExact at statements → slice_get statements k ≡ Some s → IsEntry s.item.form
    → EntryIs at s.operand.text s.item.operand z → Enters statements z
enters_here at statements k s z exact here entry v = program.there k s here entry (entry_sound at statements s.operand.text s.item.operand z exact v)

pub data_more : (statements : List Statement) (k : ℕ) (s : Statement) (done new : List ℕ) → slice_get statements k ≡ Some s → new ≡ done ++ data_bytes s.item.form
    → done ≡ flat_map (λ t. data_bytes t.item.form) (take k statements) → new ≡ flat_map (λ t. data_bytes t.item.form) (take (k + 1) statements)
data_more statements k s done new here e below =
    let f = λ (t : Statement). data_bytes t.item.form in
    e ∙ ap (λ l. l ++ data_bytes s.item.form) below
    ∙ ap (λ l. flat_map f (take k statements) ++ l) (sym (append-nil (data_bytes s.item.form)))
    ∙ sym (flat_map-append f (take k statements) (s ∷ []))
    ∙ ap (λ t. flat_map f (take k statements ++ t ∷ [])) (sym (get_or_from_slice_get statements k s s here))
    ∙ ap (flat_map f) (sym (take_more statements k s (slice_get_within statements k s here)))

pub no_data : (f : Form) → ((bytes : List ℕ) → f ≡ form.Data bytes → ⊥) → data_bytes f ≡ []
no_data (form.Data bytes) h = absurd (h bytes refl)
no_data form.Nothing h = refl
no_data (form.Lui rd) h = refl
no_data (form.Auipc rd) h = refl
no_data (form.Jal rd) h = refl
no_data (form.Jalr rd rs1) h = refl
no_data (form.Branch op rs1 rs2) h = refl
no_data (form.Load op rd rs1) h = refl
no_data (form.Store op rs1 rs2) h = refl
no_data (form.Imm op rd rs1) h = refl
no_data (form.Reg op rd rs1 rs2) h = refl
no_data form.Fence h = refl
no_data form.Ecall h = refl
no_data form.Ebreak h = refl
no_data form.Word h = refl
no_data form.Entry h = refl
