-- From the passes over a text to its parts or its first fault.
use Rattle.std.proofs.Common.{◌≡◌, ◌==◌, ℕ, suc, zero, ◌+◌, ◌*◌, ◌%◌, ◌<◌, ◌≤◌, ℤ, pos, Bool, true, false, List, [], ◌∷◌, length, map, Option, Some, None, Result, Ok, Err, refl, sym, ap, ◌∙◌, ◌⊎◌, inl, inr, ⊎_elim, arith, subst, sum_by}
use Rattle.std.specs.Borrow.{Bor}
use Rattle.std.specs.List.{slice_get, slice_split, onto_first, flat_map}
use Rattle.std.specs.Option.{option_map}
use Rattle.std.specs.Result.{IfOk, IfErr}
use Rattle.std.proofs.lemmas.List.{length-map}
use Rattle.std.proofs.lemmas.List.Splits.{length-slice_split}
use Rattle.std.proofs.lemmas.List.Sums.{sum_by-cons, count_by-le-length}
use Rattle.std.proofs.lemmas.Option.{same_Some, slice_get-map}
use Rattle.ckc_base.specs.declared.places.Pos.{Pos}
use Rattle.ckc_image.specs.declared.parts.Parts.{Parts}
use Rattle.ckc_image.specs.Image.{IsProper}
use Rattle.ckc_base.specs.declared.fault.Fault.{Fault}
use Rattle.ckc_base.specs.declared.fault.Fault.TheVariants as fault
use Rattle.ckc_asm.specs.declared.items.Form.{Form}
use Rattle.ckc_asm.specs.declared.items.Form.TheVariants as form
use Rattle.ckc_asm.specs.Cut.{lines_of}
use Rattle.ckc_asm.specs.Items.{Statement}
use Rattle.ckc_asm.specs.code.Found.{reading}
use Rattle.ckc_asm.specs.Program.{width_of, size_of, Enters, IsImage, AreSingle, AsmOf, data_bytes}
use Rattle.ckc_base.specs.Phases.{Answers, viewed}
use Rattle.ckc_base.specs.Places.{longest_text}
use Rattle.ckc_asm.specs.Faults.{IsFirstWith, NoneHas, HasOldLabel, IsNoImage, no_code, bad_entry, LabelFault, IsFirstFault, in_form, in_whole}
use Rattle.ckc_asm.specs.Phase.{assembling, parts_in}
use Rattle.ckc_asm.specs.declared.statements.Row.{Row}
use Rattle.ckc_asm.specs.code.Rows.{statements_in}
use Rattle.ckc_asm.specs.code.Outcome.{IfRefused}
use Rattle.ckc_asm.proofs.Grammatical.{lines_found, first_no_form, none_no_form}
use Rattle.ckc_asm.specs.code.Reading.{IsUnread, IsFormFault, AreRead, IsWhole, IsNoProgram, readings_in}
use Rattle.ckc_asm.proofs.LabelsBelow.{rows_size}
use Rattle.ckc_asm_lines.proofs.Cases.{bool_cases, order}

pub refused_weaker : (e : Fault) (P Q : ℕ → Pos → Type 0) → ((code : ℕ) (place : Pos) → P code place → Q code place) → IfRefused e P → IfRefused e Q
refused_weaker (fault.Refused r) P Q f h = f r.code r.pos h
refused_weaker fault.Memory P Q f h = h

pub err_weaker : {T : Type 0} (r : Result T Fault) (P Q : ℕ → Pos → Type 0) → ((code : ℕ) (place : Pos) → P code place → Q code place)
    → IfErr r (λ e. IfRefused e P) → IfErr r (λ e. IfRefused e Q)
err_weaker (Ok x) P Q f h = h
err_weaker (Err e) P Q f h = refused_weaker e P Q f h

-- ---- the whole

pub width_is : (f : Form) → (width_of f ≡ 0) ⊎ (width_of f ≡ 4)
width_is form.Nothing = inl refl
width_is form.Entry = inl refl
width_is (form.Data bytes) = inl refl
width_is _ = inr refl

pub sizes : (statements : List Statement) → (sum_by size_of statements % 4 ≡ 0) × (sum_by size_of statements ≤ 4 * length statements)
sizes [] = (refl, omega arith)
sizes (s ∷ statements) =
    let rest = sizes statements in
    let e = sum_by-cons size_of s statements in
    ⊎_elim (λ (z : width_of s.item.form ≡ 0). (omega (arith, rest.0, e, z), omega (arith, rest.1, e, z)))
    (λ (z : width_of s.item.form ≡ 4). (omega (arith, rest.0, e, z), omega (arith, rest.1, e, z)))
    (width_is s.item.form)

pub code_words : (statements : List Statement) (code : List ℕ) → IsWhole statements code → length code % 4 ≡ 0
code_words statements code h = ap (λ n. n % 4) h.whole ∙ (sizes statements).0

pub code_fits : (statements : List Statement) (code : List ℕ) → length statements ≤ 262145 → IsWhole statements code → length code ≤ 16773120
code_fits statements code l h = omega (arith, h.whole, (sizes statements).1)

pub image_of : (statements : List Statement) (entry given : ℤ) (code initial : List ℕ) (r : Result Parts Fault) → given ≡ entry → IsWhole statements code → Enters statements entry
    → initial ≡ flat_map (λ s. data_bytes s.item.form) statements → IfOk r (λ p. (given ≡ pos p.entry) × (p.code ≡ code) × (p.initial ≡ initial))
    → IfOk r (λ p. IsImage statements (pos p.entry) p.code p.initial)
image_of statements entry given code initial (Err e) is whole enters bytes h = h
image_of statements entry given code initial (Ok p) is whole enters bytes h =
    let base : IsImage statements entry code initial = record { enters = enters; whole = whole.whole; each = whole.each; data_is = bytes } in
    subst (λ (z : ℤ). IsImage statements z p.code p.initial) (sym is ∙ h.0)
    (subst (λ (l : List ℕ). IsImage statements entry l p.initial) (sym h.1) (subst (λ (l : List ℕ). IsImage statements entry code l) (sym h.2) base))

pub no_image : (statements : List Statement) (entry given : ℤ) (code : List ℕ) → given ≡ entry → IsWhole statements code → Enters statements entry → IsNoProgram given (length code) → IsNoImage statements
no_image statements entry given code is whole enters h = ⊎_elim
    (λ (z : length code ≡ 0). no_code (sym whole.whole ∙ z))
    (λ f. bad_entry entry enters (λ place e fits. f place (is ∙ e) (rw whole.whole fits)))
    h

-- ---- the text

onto_short : {A : Type 0} (x : A) (parts : List (List A)) (n : ℕ) → ((k : ℕ) (part : List A) → slice_get parts k ≡ Some part → length part ≤ n)
    → (k : ℕ) (part : List A) → slice_get (onto_first x parts) k ≡ Some part → length part ≤ n + 1
onto_short x [] n h zero part at = let e : x ∷ [] ≡ part = same_Some (x ∷ []) part at in omega (arith, ap length e)
onto_short x [] n h (suc k) part at = absurd (let z : None ≡ Some part = at in cc)
onto_short x (first ∷ parts) n h zero part at = let e : x ∷ first ≡ part = same_Some (x ∷ first) part at in omega (arith, ap length e, h 0 first refl)
onto_short x (first ∷ parts) n h (suc k) part at = omega (arith, h (suc k) part at)

part_short : (p : ℕ → Bool) (xs : List ℕ) (k : ℕ) (part : List ℕ) → slice_get (slice_split p xs) k ≡ Some part → length part ≤ length xs
part_short p [] zero part at = let e : [] ≡ part = same_Some [] part at in omega (arith, ap length e)
part_short p [] (suc k) part at = absurd (let z : None ≡ Some part = at in cc)
part_short p (x ∷ xs) k part at = ⊎_elim
    (λ (t : p x ≡ true). behind (part_short p xs) k (rw t at at))
    (λ (f : p x ≡ false). let l = onto_short x (slice_split p xs) (length xs) (part_short p xs) k part (rw f at at) in omega (arith, l))
    (bool_cases (p x))
  where
    behind : ((k : ℕ) (part : List ℕ) → slice_get (slice_split p xs) k ≡ Some part → length part ≤ length xs)
        → (k : ℕ) → slice_get ([] ∷ slice_split p xs) k ≡ Some part → length part ≤ suc (length xs)
    behind short zero e = let i : [] ≡ part = same_Some [] part e in omega (arith, ap length i)
    behind short (suc k) e = omega (arith, short k part e)

pub lines_short : (text : List ℕ) (lines : List (Bor (List ℕ))) (n : ℕ) → map (λ l. l.now) lines ≡ lines_of text → length text ≤ n
    → (k : ℕ) (line : Bor (List ℕ)) → slice_get lines k ≡ Some line → length line.now ≤ n
lines_short text lines n e h k line at =
    let there : slice_get (lines_of text) k ≡ Some line.now =
    sym (ap (λ l. slice_get l k) e) ∙ slice_get-map (λ (l : Bor (List ℕ)). l.now) lines k ∙ ap (option_map (λ (l : Bor (List ℕ)). l.now)) at in
    omega (arith, part_short (λ b. b == 10) text k line.now there)

pub lines_few : (text : List ℕ) (lines : List (Bor (List ℕ))) → map (λ l. l.now) lines ≡ lines_of text → length lines ≤ length text + 1
lines_few text lines e =
    let same : length lines ≡ length (lines_of text) = sym (length-map lines (λ (l : Bor (List ℕ)). l.now)) ∙ ap length e in
    omega (arith, same, length-slice_split (λ b. b == 10) text, count_by-le-length (λ b. b == 10) text)

pub read_few : (lines : List (Bor (List ℕ))) (statements : List Statement) → AreRead (readings_in lines) statements → length statements ≡ length lines
read_few lines statements read =
    sym (length-map statements (λ (s : Statement). Some s)) ∙ sym (ap length read.form)
    ∙ length-map (map (λ (l : Bor (List ℕ)). l.now) lines) reading ∙ length-map lines (λ (l : Bor (List ℕ)). l.now)

-- ---- single labels and entries

get_some : (lines : List (Option Statement)) (statements : List Statement) (k : ℕ) (s : Statement) → lines ≡ map (λ t. Some t) statements → slice_get statements k ≡ Some s
    → slice_get lines k ≡ Some (Some s)
get_some lines statements k s e at = ap (λ l. slice_get l k) e ∙ slice_get-map (λ (t : Statement). Some t) statements k ∙ ap (option_map (λ (t : Statement). Some t)) at

pub are_single : (lines : List (Option Statement)) (statements : List Statement) → AreRead lines statements → NoneHas (HasOldLabel statements) statements → AreSingle statements
are_single lines statements read none = record {
  labels = λ j k s t name at there has also. ⊎_elim
      (λ (l : j < k). absurd (none k t there (name, j, s, l, at, has, also)))
      (λ m. ⊎_elim (λ (l : k < j). absurd (none j s at (name, k, t, l, there, also, has))) (λ (e : j ≡ k). e) m)
      (order j k);
  entries = λ j k s t at there one two. ⊎_elim
      (λ (l : j < k). absurd (read.entries k (Some t) (get_some lines statements k t read.form there) (inr (j, Some s, l, get_some lines statements j s read.form at, one, two))))
      (λ m. ⊎_elim
      (λ (l : k < j). absurd (read.entries j (Some s) (get_some lines statements j s read.form at) (inr (k, Some t, l, get_some lines statements k t read.form there, two, one))))
      (λ (e : j ≡ k). e) m)
      (order j k);
}

-- ---- each answer

pub asm_of : (text : List ℕ) (lines : List (Bor (List ℕ))) (statements : List Statement) (r : Result Parts Fault) → map (λ l. l.now) lines ≡ lines_of text
    → length text ≤ longest_text → AreRead (readings_in lines) statements → IfOk r (λ p. NoneHas (HasOldLabel statements) statements)
    → IfOk r (λ p. IsImage statements (pos p.entry) p.code p.initial) → IfOk r (λ p. IsProper p.entry p.code p.initial)
    → IfOk r (λ p. (length text ≤ longest_text) × AsmOf text p.entry p.code p.initial)
asm_of text lines statements (Err e) same h read none image proper = image
asm_of text lines statements (Ok p) same h read none image proper = (
  h,
  record {
    statements = statements;
    form = lines_found (lines_of text) statements (sym (ap (map reading) same) ∙ read.form);
    single = are_single (readings_in lines) statements read none;
    image = image;
    proper = proper;
  },
)

pub whole_fault : (text : List ℕ) (lines : List (Bor (List ℕ))) (statements : List Statement) (code : ℕ) (place : Pos) → map (λ l. l.now) lines ≡ lines_of text
    → length text ≤ longest_text → AreRead (readings_in lines) statements → LabelFault statements code place → IsFirstFault text code place
whole_fault text lines statements code place same h read bad =
    in_whole h statements
    (record {
      form = lines_found (lines_of text) statements (sym (ap (map reading) same) ∙ read.form);
      entries = none_no_form (lines_of text) (subst (λ (l : List (List ℕ)). NoneHas (IsUnread (map reading l)) (map reading l)) same read.entries);
    })
    bad

pub form_fault : (text : List ℕ) (lines : List (Bor (List ℕ))) (code : ℕ) (place : Pos) → map (λ l. l.now) lines ≡ lines_of text
    → length text ≤ longest_text → IsFormFault (readings_in lines) code place → IsFirstFault text code place
form_fault text lines code place same h bad =
    let first = subst (λ (l : List (List ℕ)). IsFirstWith (IsUnread (map reading l)) (map reading l) bad.0 bad.1) same bad.2 in
    let line = first_no_form (lines_of text) bad.0 bad.1 first in
    in_form h (bad.0, line.0, line.1, bad.3, bad.4)

pub answers_of : (text : List ℕ) (r : Result Parts Fault) → IfOk r (λ p. (length text ≤ longest_text) × AsmOf text p.entry p.code p.initial)
    → IfErr r (λ e. IfRefused e (λ code place. IsFirstFault text code place)) → Answers assembling text (viewed parts_in r)
answers_of text (Ok p) sound refused = sound
answers_of text (Err fault.Memory) sound refused = tt
answers_of text (Err (fault.Refused r)) sound refused = refused

-- as few statements as lines
pub rows_few : (text : List ℕ) (lines : List (Bor (List ℕ))) (rows given : List Row) → map (λ l. l.now) lines ≡ lines_of text → length text ≤ longest_text
    → AreRead (readings_in lines) (statements_in rows) → given ≡ rows → length given ≤ longest_text + 1
rows_few text lines rows given e short read is =
    let few = lines_few text lines e in
    let count = read_few lines (statements_in rows) read in
    omega (arith, few, count, rows_size rows, ap length is, short)

-- what holds in any case holds if there is a result
pub ok_of : {T E : Type 0} (r : Result T E) (P : Type 0) → P → IfOk r (λ x. P)
ok_of (Ok x) P h = h
ok_of (Err e) P h = tt
