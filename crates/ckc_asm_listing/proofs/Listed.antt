-- A listing is assembly of the parts that were listed.
use Rattle.std.proofs.Common.{◌≡◌, ℕ, zero, suc, ◌+◌, ◌-◌, ◌*◌, ◌/◌, ◌%◌, ◌^◌, ◌<◌, ◌≤◌, ◌==◌, ℤ, pos, Bool, true, false, not, List, [], ◌∷◌, ◌++◌, length, map, take, drop, get_or, Option, Some, None, refl, sym, ap, ◌∙◌, subst, arith, append_assoc, length-append, length-drop, min, sum_by}
use Rattle.std.specs.List.{flat_map, list_all, slice_get, range_with_len, AllByRecursion}
use Rattle.std.proofs.lemmas.List.{take_at, append-nil, take_all, take-take, drop-take, drop-drop, take-append-drop, length-take, get_or-drop}
use Rattle.std.proofs.Math.Seq.{drop-append-add}
use Rattle.std.proofs.lemmas.List.Sums.{sum_by-cons, AllPass-from_list_all}
use Rattle.std.proofs.lemmas.List.Splits.{slice_split_at}
use Rattle.std.proofs.lemmas.Option.{same_Some, none-some}
use Rattle.ckc_asm.specs.declared.items.Form.{Form}
use Rattle.ckc_asm.specs.declared.items.Form.TheVariants as form
use Rattle.ckc_asm.specs.declared.items.Operand.{Operand}
use Rattle.ckc_asm.specs.declared.items.Operand.TheVariants.{Nothing, Number, Named}
use Rattle.std.proofs.lemmas.Grind.{common_steps}
use Rattle.std.specs.Int.{w32, from_le_bytes}
use Rattle.ckc_rv.specs.declared.instructions.Instr.{Instr}
use Rattle.ckc_rv.specs.code.Decoded.{decoded}
use Rattle.ckc_rv.proofs.Rows.{decoded_law}
use Rattle.ckc_asm_listing.specs.Listing.{text_of, instr_or_word, word_line, data_line, word_lines, data_lines, entry_text, format_text, listing_lines, listing, shown_lines, shown_image}
use Rattle.ckc_asm.specs.Cut.{lines_of}
use Rattle.ckc_asm.specs.Items.{Statement, item}
use Rattle.ckc_asm.specs.code.Found.{reading}
use Rattle.ckc_image.specs.declared.format.Format.{Format}
use Rattle.ckc_image.specs.Image.{word_bytes, IsProper, four_at, word_at}
use Rattle.ckc_asm.specs.Program.{width_of, size_of, offset_of, address_of, IsBytes, IsValue, IsWordOf, data_bytes, IsEntry, AsmOf, bytes_at, IsEntryOf, no_place, of_word, there}
use Rattle.ckc_asm.proofs.Grammatical.{lines_found}
use Rattle.ckc_asm.proofs.Words.{not_feed, Reads}
use Rattle.ckc_asm_listing.proofs.ReadBack.{IsPlainValue, LineOf, instr_line, word_line as plain_word_line, data_reads, entry_reads, format_reads, empty_reads}

-- lines, their statements, and the code and the initial bytes of them
pub data Lists : List (List ℕ) → List Statement → List ℕ → List ℕ → Type 0 where
  nil : Lists [] [] [] []
  line : {lines : List (List ℕ)} {statements : List Statement} {code data' : List ℕ} (l : List ℕ) (s : Statement) (bytes more : List ℕ)
      → list_all not_feed l ≡ true → reading l ≡ Some s → s.label ≡ None → (IsEntry s.item.form → ⊥) → length bytes ≡ size_of s
      → ((all : List Statement) (a : ℕ) → IsBytes all a s bytes) → more ≡ data_bytes s.item.form
      → Lists lines statements code data' → Lists (l ∷ lines) (s ∷ statements) (bytes ++ code) (more ++ data')

-- these lines have some statements with this code and these initial bytes
pub record Listed (lines : List (List ℕ)) (code more : List ℕ) : Type 0 where
  pub statements : List Statement
  pub lists : Lists lines statements code more

append_lists : {xs ys : List (List ℕ)} {ss ts : List Statement} {c d e f : List ℕ} → Lists xs ss c d → Lists ys ts e f → Lists (xs ++ ys) (ss ++ ts) (c ++ e) (d ++ f)
append_lists nil more = more
append_lists {ys = ys} {ts = ts} {e = e} {f = f} (line {lines = ls} {statements = ss} {code = c} {data' = d} l s bytes m clean reads label no_entry size is data_is rest) more =
    let P : List ℕ → Type 0 = λ x. Lists (l ∷ (ls ++ ys)) (s ∷ (ss ++ ts)) x (m ++ d ++ f) in
    let Q : List ℕ → Type 0 = λ x. Lists (l ∷ (ls ++ ys)) (s ∷ (ss ++ ts)) (bytes ++ (c ++ e)) x in
    subst P (sym (append_assoc bytes c e)) (subst Q (sym (append_assoc m d f)) (line l s bytes m clean reads label no_entry size is data_is (append_lists rest more)))

pub append_listed : (xs ys : List (List ℕ)) (c d e f : List ℕ) → Listed xs c d → Listed ys e f → Listed (xs ++ ys) (c ++ e) (d ++ f)
append_listed xs ys c d e f a b = record { statements = a.statements ++ b.statements; lists = append_lists a.lists b.lists }

pub none_listed : Listed [] [] []
none_listed = record { statements = []; lists = nil }

-- ---- what the lists say

form_of_lists : {ls : List (List ℕ)} {ss : List Statement} {c d : List ℕ} → Lists ls ss c d → map reading ls ≡ map (λ s. Some s) ss
form_of_lists nil = refl
form_of_lists (line l s bytes m clean reads label no_entry size is data_is rest) = rw (reads, form_of_lists rest) refl

plain_of_lists : {ls : List (List ℕ)} {ss : List Statement} {c d : List ℕ} → Lists ls ss c d → (k : ℕ) (s : Statement) → slice_get ss k ≡ Some s → (s.label ≡ None) × (IsEntry s.item.form → ⊥)
plain_of_lists nil k s at = absurd (let z : None ≡ Some s = at in cc)
plain_of_lists (line l t bytes m clean reads label no_entry size is data_is rest) zero s at =
    let P : Statement → Type 0 = λ u. (u.label ≡ None) × (IsEntry u.item.form → ⊥) in
    subst P (same_Some t s at) (label, no_entry)
plain_of_lists (line l t bytes m clean reads label no_entry size is data_is rest) (suc k) s at = plain_of_lists rest k s at

whole_of_lists : {ls : List (List ℕ)} {ss : List Statement} {c d : List ℕ} → Lists ls ss c d → length c ≡ sum_by size_of ss
whole_of_lists nil = refl
whole_of_lists (line {statements = ss} {code = c} l s bytes m clean reads label no_entry size is data_is rest) =
    omega (arith, length-append bytes c, size, whole_of_lists rest, sum_by-cons size_of s ss)

data_of_lists : {ls : List (List ℕ)} {ss : List Statement} {c d : List ℕ} → Lists ls ss c d → d ≡ flat_map (λ s. data_bytes s.item.form) ss
data_of_lists nil = refl
data_of_lists (line {statements = ss} {data' = d} l s bytes m clean reads label no_entry size is data_is rest) =
    ap (λ x. x ++ d) data_is ∙ ap (λ x. data_bytes s.item.form ++ x) (data_of_lists rest)

each_of_lists : {ls : List (List ℕ)} {ss : List Statement} {c d : List ℕ} → Lists ls ss c d → (k : ℕ) (s : Statement) → slice_get ss k ≡ Some s
    → (all : List Statement) (a : ℕ) → IsBytes all a s (bytes_at ss k s c)
each_of_lists nil k s at all a = absurd (let z : None ≡ Some s = at in cc)
each_of_lists (line {code = c} l t bytes m clean reads label no_entry size is data_is rest) zero s at all a =
    let here : take (size_of t) (bytes ++ c) ≡ bytes = take_at bytes c (size_of t) size in
    let P : Statement → Type 0 = λ u. IsBytes all a u (take (size_of u) (bytes ++ c)) in
    subst P (same_Some t s at) (rw here (is all a))
each_of_lists (line {statements = ss} {code = c} l t bytes m clean reads label no_entry size is data_is rest) (suc k) s at all a =
    let o : offset_of (t ∷ ss) (suc k) ≡ length bytes + offset_of ss k = omega (arith, size, sum_by-cons size_of t (take k ss)) in
    let there : drop (offset_of (t ∷ ss) (suc k)) (bytes ++ c) ≡ drop (offset_of ss k) c = ap (λ n. drop n (bytes ++ c)) o ∙ drop-append-add bytes c (offset_of ss k) in
    rw there (each_of_lists rest k s at all a)

-- ---- the text

clean_of_lists : {ls : List (List ℕ)} {ss : List Statement} {c d : List ℕ} → Lists ls ss c d → AllByRecursion (λ l. list_all not_feed l ≡ true) ls
clean_of_lists nil = tt
clean_of_lists (line l s bytes m clean reads label no_entry size is data_is rest) = (clean, clean_of_lists rest)

no_feed : (b : Bool) → not b ≡ true → b ≡ false
no_feed true h = absurd (let z : false ≡ true = h in cc)
no_feed false h = refl

-- each line ends at its line feed
pub split_text : (lines : List (List ℕ)) → AllByRecursion (λ l. list_all not_feed l ≡ true) lines → lines_of (text_of lines) ≡ lines ++ [] ∷ []
split_text [] h = refl
split_text (l ∷ lines) h =
    ap lines_of (append_assoc l (10 ∷ []) (text_of lines))
    ∙ slice_split_at (λ b. b == 10) l 10 (text_of lines) (λ k d lt. no_feed _ (AllPass-from_list_all not_feed l h.0 k d lt)) refl
    ∙ ap (λ x. l ∷ x) (split_text lines h.1)

-- ---- the whole listing

-- the empty line at the end
last_line : (blank : Reads [] form.Nothing Nothing) → Lists ([] ∷ []) (blank.statement ∷ []) [] []
last_line blank =
    let f : blank.statement.item.form ≡ form.Nothing = ap (λ i. i.form) blank.item_is in
    let size : 0 ≡ size_of blank.statement = sym (ap width_of f) in
    let P : Form → Type 0 = λ g. IsEntry g → ⊥ in
    line [] blank.statement [] [] refl blank.reads blank.unlabelled (subst P (sym f) (λ z. z)) size (λ all a. no_place (sym size) refl) (sym (ap data_bytes f)) nil

-- statements after one that takes no place
later : (s : Statement) (ss : List Statement) (k : ℕ) → size_of s ≡ 0 → offset_of (s ∷ ss) (suc k) ≡ offset_of ss k
later s ss k size = omega (arith, size, sum_by-cons size_of s (take k ss))

-- bytes after a statement that takes no place
each_after : (s : Statement) (ss : List Statement) (c : List ℕ) → size_of s ≡ 0
    → ((k : ℕ) (u : Statement) → slice_get ss k ≡ Some u → (all : List Statement) (a : ℕ) → IsBytes all a u (bytes_at ss k u c))
    → (k : ℕ) (u : Statement) → slice_get (s ∷ ss) k ≡ Some u → (all : List Statement) (a : ℕ) → IsBytes all a u (bytes_at (s ∷ ss) k u c)
each_after s ss c size each zero u at all a =
    let P : Statement → Type 0 = λ v. IsBytes all a v (take (size_of v) c) in
    subst P (same_Some s u at) (no_place size (ap (λ n. take n c) size))
each_after s ss c size each (suc k) u at all a =
    let same : bytes_at (s ∷ ss) (suc k) u c ≡ bytes_at ss k u c = ap (λ n. take (size_of u) (drop n c)) (later s ss k size) in
    rw same (each k u at all a)

-- Lines have statements of this code and these initial bytes. One, the k-th, is a `.entry` with this entry, and none has a label.
record Entered (entry : ℕ) (lines : List (List ℕ)) (code initial : List ℕ) : Type 0 where
  statements : List Statement
  reads : map reading lines ≡ map (λ s. Some s) statements
  k : ℕ
  start : Statement
  stands : slice_get statements k ≡ Some start
  starts : start.item ≡ item form.Entry (Number (pos entry))
  plain : (j : ℕ) (u : Statement) → slice_get statements j ≡ Some u → (u.label ≡ None) × (IsEntry u.item.form → j ≡ k)
  whole : length code ≡ sum_by size_of statements
  each : (j : ℕ) (u : Statement) → slice_get statements j ≡ Some u → (all : List Statement) (a : ℕ) → IsBytes all a u (bytes_at statements j u code)
  data_is : initial ≡ flat_map (λ s. data_bytes s.item.form) statements

-- a `.entry` before lines that have none
entered : {ls : List (List ℕ)} {c d : List ℕ} (entry : ℕ) (l : List ℕ) → Reads l form.Entry (Number (pos entry)) → Listed ls c d → Entered entry (l ∷ ls) c d
entered {ls = ls} {c = c} {d = d} entry l r rest =
    let s = r.statement in
    let ss = rest.statements in
    let f : s.item.form ≡ form.Entry = ap (λ i. i.form) r.item_is in
    let size : size_of s ≡ 0 = ap width_of f in
    record {
      statements = s ∷ ss;
      reads = ap (λ o. o ∷ map reading ls) r.reads ∙ ap (λ x. Some s ∷ x) (form_of_lists rest.lists);
      k = 0;
      start = s;
      stands = refl;
      starts = r.item_is;
      plain = first_only s r.unlabelled rest.lists;
      whole = omega (arith, whole_of_lists rest.lists, size, sum_by-cons size_of s ss);
      each = each_after s ss c size (λ j u at. each_of_lists rest.lists j u at);
      data_is = data_of_lists rest.lists ∙ ap (λ x. x ++ flat_map (λ u. data_bytes u.item.form) ss) (sym (ap data_bytes f));
    }
  where
    first_only : {ls : List (List ℕ)} {ss : List Statement} {c d : List ℕ} (s : Statement) → s.label ≡ None → Lists ls ss c d → (j : ℕ) (u : Statement)
        → slice_get (s ∷ ss) j ≡ Some u → (u.label ≡ None) × (IsEntry u.item.form → j ≡ 0)
    first_only s label lists zero u at = let P : Statement → Type 0 = λ v. (v.label ≡ None) × (IsEntry v.item.form → ◌≡◌ {A = ℕ} 0 0) in subst P (same_Some s u at) (label, λ h. refl)
    first_only s label lists (suc j) u at = let p = plain_of_lists lists j u at in (p.0, λ h. absurd (p.1 h))

-- a line of nothing before such lines
noted : {entry : ℕ} {ls : List (List ℕ)} {c d : List ℕ} (l : List ℕ) → Reads l form.Nothing Nothing → Entered entry ls c d → Entered entry (l ∷ ls) c d
noted {ls = ls} {c = c} {d = d} l r e =
    let s = r.statement in
    let ss = e.statements in
    let f : s.item.form ≡ form.Nothing = ap (λ i. i.form) r.item_is in
    let size : size_of s ≡ 0 = ap width_of f in
    let P : Form → Type 0 = λ g. IsEntry g → ⊥ in
    record {
      statements = s ∷ ss;
      reads = ap (λ o. o ∷ map reading ls) r.reads ∙ ap (λ x. Some s ∷ x) e.reads;
      k = suc e.k;
      start = e.start;
      stands = e.stands;
      starts = e.starts;
      plain = plain_after s ss e.k r.unlabelled (subst P (sym f) (λ h. h)) e.plain;
      whole = omega (arith, e.whole, size, sum_by-cons size_of s ss);
      each = each_after s ss c size e.each;
      data_is = e.data_is ∙ ap (λ x. x ++ flat_map (λ u. data_bytes u.item.form) ss) (sym (ap data_bytes f));
    }
  where
    plain_after : (s : Statement) (ss : List Statement) (k : ℕ) → s.label ≡ None → (IsEntry s.item.form → ⊥)
        → ((j : ℕ) (u : Statement) → slice_get ss j ≡ Some u → (u.label ≡ None) × (IsEntry u.item.form → j ≡ k))
        → (j : ℕ) (u : Statement) → slice_get (s ∷ ss) j ≡ Some u → (u.label ≡ None) × (IsEntry u.item.form → j ≡ suc k)
    plain_after s ss k label none plain zero u at =
        let P : Statement → Type 0 = λ v. (v.label ≡ None) × (IsEntry v.item.form → ◌≡◌ {A = ℕ} 0 (suc k)) in
        subst P (same_Some s u at) (label, λ h. absurd (none h))
    plain_after s ss k label none plain (suc j) u at = let p = plain j u at in (p.0, λ h. ap suc (p.1 h))

-- a text of such lines, each ended by a line feed, so that an empty line follows them
asm_of_entered : (entry : ℕ) (lines : List (List ℕ)) (code initial : List ℕ) → AllByRecursion (λ l. list_all not_feed l ≡ true) lines
    → Entered entry (lines ++ [] ∷ []) code initial → IsProper entry code initial → AsmOf (text_of lines) entry code initial
asm_of_entered entry lines code initial clean e proper =
    let all = e.statements in
    let f : e.start.item.form ≡ form.Entry = ap (λ i. i.form) e.starts in
    let o : e.start.item.operand ≡ Number (pos entry) = ap (λ i. i.operand) e.starts in
    let P : Form → Type 0 = λ g. IsEntry g in
    let Q : Operand → Type 0 = λ p. IsEntryOf all e.start.operand.text p (pos entry) in
    record {
      statements = all;
      form = lines_found (lines_of (text_of lines)) all (ap (map reading) (split_text lines clean) ∙ e.reads);
      single = record {
        labels = λ i j u v name at there has other. (let p = e.plain i u at in let z : None ≡ Some has.0 = sym p.0 ∙ has.1 in absurd (none-some has.0 z));
        entries = λ i j u v at there here other. (e.plain i u at).1 here ∙ sym ((e.plain j v there).1 other);
      };
      image = record {
        enters = there e.k e.start e.stands (subst P (sym f) tt) (subst Q (sym o) refl);
        whole = e.whole;
        each = λ j u at. e.each j u at all (address_of all j);
        data_is = e.data_is;
      };
      proper = proper;
    }

-- ---- the lines of code and of initial bytes

-- a line of a word
pub word_listed : (l : List ℕ) (word : ℕ) → LineOf l word → Listed (l ∷ []) (word_bytes word) []
word_listed l word is =
    let s = is.reads.statement in
    let f : s.item.form ≡ is.f = ap (λ i. i.form) is.reads.item_is in
    let o : s.item.operand ≡ is.operand = ap (λ i. i.operand) is.reads.item_is in
    let size : size_of s ≡ 4 = ap width_of f ∙ is.wide in
    let P : Form → Type 0 = λ g. IsEntry g → ⊥ in
    let Q : Form → Type 0 = λ g. IsWordOf g is.z word in
    let value : (all : List Statement) (a : ℕ) → IsValue all a s.operand.text s.item.operand is.z = λ all a. rw o (plain_value all a s.operand.text is.operand is.z is.value) in
    let lists = line l s (word_bytes word) [] is.reads.clean is.reads.reads is.reads.unlabelled (subst P (sym f) is.no_entry) (sym size)
    (λ all a. of_word is.z word (value all a) (subst Q (sym f) is.is) refl) (sym (ap data_bytes f ∙ is.no_data)) nil in
    let C : List ℕ → Type 0 = λ c. Lists (l ∷ []) (s ∷ []) c [] in
    record { statements = s ∷ []; lists = subst C (append-nil (word_bytes word)) lists }
  where
    plain_value : (all : List Statement) (a : ℕ) (name : List ℕ) (operand : Operand) (z : ℤ) → IsPlainValue operand z → IsValue all a name operand z
    plain_value all a name Nothing z h = h
    plain_value all a name (Number n) z h = h
    plain_value all a name Named z h = absurd h

-- a line of initial bytes
pub data_listed : (l bytes : List ℕ) → Reads l (form.Data bytes) Nothing → Listed (l ∷ []) [] bytes
data_listed l bytes r =
    let s = r.statement in
    let f : s.item.form ≡ form.Data bytes = ap (λ i. i.form) r.item_is in
    let size : size_of s ≡ 0 = ap width_of f in
    let P : Form → Type 0 = λ g. IsEntry g → ⊥ in
    let lists = line l s [] bytes r.clean r.reads r.unlabelled (subst P (sym f) (λ z. z)) (sym size) (λ all a. no_place size refl) (sym (ap data_bytes f)) nil in
    let D : List ℕ → Type 0 = λ d. Lists (l ∷ []) (s ∷ []) [] d in
    record { statements = s ∷ []; lists = subst D (append-nil bytes) lists }

-- ---- words and their bytes

-- the items of a list are bytes
abbrev pub AreBytes : List ℕ → Type 0
AreBytes bytes = (k : ℕ) → get_or bytes k 0 < 2 ^ 8

four_is : (bytes : List ℕ) (at : ℕ) → at + 4 ≤ length bytes
    → four_at bytes at ≡ get_or bytes at 0 ∷ get_or bytes (at + 1) 0 ∷ get_or bytes (at + 2) 0 ∷ get_or bytes (at + 3) 0 ∷ []
four_is bytes at h = grind (arith, common_steps)

word_of_four : (a b c d : ℕ) → a < 2 ^ 8 → b < 2 ^ 8 → c < 2 ^ 8 → d < 2 ^ 8
    → (word_bytes (from_le_bytes w32 (a ∷ b ∷ c ∷ d ∷ [])) ≡ a ∷ b ∷ c ∷ d ∷ []) × (from_le_bytes w32 (a ∷ b ∷ c ∷ d ∷ []) < 2 ^ 32)
word_of_four a b c d ha hb hc hd =
    let n = from_le_bytes w32 (a ∷ b ∷ c ∷ d ∷ []) in
    let ea : n % 256 ≡ a = omega arith in
    let eb : n / 256 % 256 ≡ b = omega arith in
    let ec : n / 65536 % 256 ≡ c = omega arith in
    let ed : n / 16777216 % 256 ≡ d = omega arith in
    (cc, omega arith)

word_back : (bytes : List ℕ) (at : ℕ) → AreBytes bytes → at + 4 ≤ length bytes → (word_bytes (word_at bytes at) ≡ four_at bytes at) × (word_at bytes at < 2 ^ 32)
word_back bytes at small h =
    rw (four_is bytes at h) (word_of_four _ _ _ _ (small at) (small (at + 1)) (small (at + 2)) (small (at + 3)))

text_line : (word : ℕ) → word < 2 ^ 32 → (o : Option Instr) → decoded word ≡ o → LineOf (instr_or_word o word) word
text_line word h None e = plain_word_line word h
text_line word h (Some i) e = instr_line i word ((decoded_law word i).0 e)

take_add : {A : Type 0} (n m : ℕ) (xs : List A) → take (n + m) xs ≡ take n xs ++ take m (drop n xs)
take_add n m xs =
    let front : take n (take (n + m) xs) ≡ take n xs = take-take n (n + m) xs (omega arith) in
    let back : drop n (take (n + m) xs) ≡ take m (drop n xs) = drop-take n m xs in
    sym (take-append-drop n (take (n + m) xs)) ∙ rw (front, back) refl

-- a piece and the pieces after it
piece : (width a n : ℕ) (xs : List ℕ) → take width (drop (width * a) xs) ++ take (width * n) (drop (width * (a + 1)) xs) ≡ take (width * suc n) (drop (width * a) xs)
piece width a n xs =
    let ys = drop (width * a) xs in
    let next : drop (width * (a + 1)) xs ≡ drop width ys = ap (λ k. drop k xs) (omega arith) ∙ sym (drop-drop width (width * a) xs) in
    let more : width * suc n ≡ width + width * n = omega arith in
    rw (next, more) (sym (take_add width (width * n) ys))

words_listed : (code : List ℕ) (n a : ℕ) → AreBytes code → 4 * (a + n) ≤ length code → Listed (map (word_line code) (range_with_len a n)) (take (4 * n) (drop (4 * a) code)) []
words_listed code zero a small h = none_listed
words_listed code (suc n) a small h =
    let w = word_back code (4 * a) small (omega arith) in
    let here : Listed (word_line code a ∷ []) (four_at code (4 * a)) [] =
    (let L : List ℕ → Type 0 = λ c. Listed (word_line code a ∷ []) c [] in subst L w.0 (word_listed _ _ (text_line (word_at code (4 * a)) w.1 (decoded (word_at code (4 * a))) refl))) in
    let more = words_listed code n (a + 1) small (omega arith) in
    let C : List ℕ → Type 0 = λ c. Listed (map (word_line code) (range_with_len a (suc n))) c [] in
    subst C (piece 4 a n code) (append_listed (word_line code a ∷ []) (map (word_line code) (range_with_len (a + 1) n)) _ _ _ _ here more)

bytes_small : (n : ℕ) (bytes : List ℕ) → AreBytes bytes → AllByRecursion (λ b. b < 2 ^ 8) (take n bytes)
bytes_small zero bytes small = tt
bytes_small (suc n) [] small = tt
bytes_small (suc n) (b ∷ bytes) small = (small 0, bytes_small n bytes (λ k. small (suc k)))

data_pieces : (initial : List ℕ) (m a : ℕ) → AreBytes initial → 16 * (a + m) ≤ length initial + 15 → Listed (map (data_line initial) (range_with_len a m)) [] (take (16 * m) (drop (16 * a) initial))
data_pieces initial zero a small h = none_listed
data_pieces initial (suc m) a small h =
    let rest = drop (16 * a) initial in
    let bytes = take 16 rest in
    let size : length bytes ≡ min 16 (length initial - 16 * a) = length-take 16 rest ∙ ap (λ n. min 16 n) (length-drop (16 * a) initial) in
    let here : Listed (data_line initial a ∷ []) [] bytes =
    data_listed _ bytes (data_reads bytes (omega arith) (omega arith) (bytes_small 16 rest (λ k. subst (λ b. b < 2 ^ 8) (sym (get_or-drop (16 * a) initial k 0)) (small (16 * a + k))))) in
    let more = data_pieces initial m (a + 1) small (omega arith) in
    let D : List ℕ → Type 0 = λ d. Listed (map (data_line initial) (range_with_len a (suc m))) [] d in
    subst D (piece 16 a m initial) (append_listed (data_line initial a ∷ []) (map (data_line initial) (range_with_len (a + 1) m)) [] _ [] _ here more)

-- the lines after the entry list code and initial bytes
parts_listed : (code initial : List ℕ) → AreBytes code → AreBytes initial → length code % 4 ≡ 0 → Listed (word_lines code ++ data_lines initial) code initial
parts_listed code initial hc hi words_whole =
    let n = length code / 4 in
    let m = (length initial + 15) / 16 in
    let all_code : take (4 * n) (drop (4 * 0) code) ≡ code = take_all (4 * n) code (omega (arith, words_whole)) in
    let all_data : take (16 * m) (drop (16 * 0) initial) ≡ initial = take_all (16 * m) initial (omega arith) in
    let words = words_listed code n 0 hc (omega arith) in
    let given = data_pieces initial m 0 hi (omega arith) in
    let C : List ℕ → Type 0 = λ c. Listed (word_lines code ++ data_lines initial) c initial in
    let D : List ℕ → Type 0 = λ d. Listed (word_lines code ++ data_lines initial) (take (4 * n) (drop (4 * 0) code)) d in
    let E : List ℕ → Type 0 = λ c. Listed (word_lines code ++ data_lines initial) c (take (16 * m) (drop (16 * 0) initial)) in
    subst C all_code (subst D all_data (subst E (append-nil _) (append_listed (word_lines code) (data_lines initial) _ _ _ _ words given)))

module _ (entry : ℕ) (code initial : List ℕ) (he : entry < 2 ^ 32) (hc : AreBytes code) (hi : AreBytes initial) (proper : IsProper entry code initial) where
  rest : Listed (word_lines code ++ data_lines initial) code initial
  rest = parts_listed code initial hc hi proper.0.0

  -- the lines of a listing, and the empty line after them
  lines_entered : Entered entry (listing_lines entry code initial ++ [] ∷ []) code initial
  lines_entered =
      let C : List ℕ → Type 0 = λ c. Listed ((word_lines code ++ data_lines initial) ++ [] ∷ []) c initial in
      let D : List ℕ → Type 0 = λ d. Listed ((word_lines code ++ data_lines initial) ++ [] ∷ []) (code ++ []) d in
      let last : Listed ([] ∷ []) [] [] = record { statements = empty_reads.statement ∷ []; lists = last_line empty_reads } in
      entered entry (entry_text entry) (entry_reads entry he)
      (subst C (append-nil code) (subst D (append-nil initial) (append_listed (word_lines code ++ data_lines initial) ([] ∷ []) code initial [] [] rest last)))

  lines_clean : AllByRecursion (λ l. list_all not_feed l ≡ true) (listing_lines entry code initial)
  lines_clean = ((entry_reads entry he).clean, clean_of_lists rest.lists)

  -- a listing is assembly of its parts
  pub listing_reads : AsmOf (listing entry code initial) entry code initial
  listing_reads = asm_of_entered entry (listing_lines entry code initial) code initial lines_clean lines_entered proper

  -- so is one after the line of a format
  pub shown_reads : (format : Format) → AsmOf (shown_image format entry code initial) entry code initial
  shown_reads format =
      asm_of_entered entry (shown_lines format entry code initial) code initial ((format_reads format).clean, lines_clean)
      (noted (format_text format) (format_reads format) lines_entered) proper
