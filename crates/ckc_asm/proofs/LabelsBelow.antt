-- The labels of the first statements of a text, and where statements stand.
use Rattle.std.proofs.Common.{◌≡◌, ℕ, ◌+◌, ◌<◌, ◌≤◌, true, false, cond, List, length, get_or, Option, Some, None, IsSome, refl, sym, ap, ◌∙◌, ⊎_elim, arith, bytes_eq}
use Rattle.std.specs.List.{slice_get}
use Rattle.std.specs.Option.{option_map}
use Rattle.std.proofs.lemmas.List.{length-map}
use Rattle.std.proofs.lemmas.List.Sums.{sum_by_more}
use Rattle.std.proofs.lemmas.Option.{same_Some, slice_get_within, slice_get-get_or, slice_get-map, get_or_from_slice_get}
use Rattle.std.proofs.lemmas.Slice.Eq.{bytes_eq-Decides}
use Rattle.ckc_asm.specs.declared.items.Form.{Form}
use Rattle.ckc_asm.specs.declared.items.Form.TheVariants as form
use Rattle.ckc_base.specs.declared.fault.Fault.{Fault}
use Rattle.ckc_base.specs.declared.fault.Fault.TheVariants as fault
use Rattle.ckc_asm.specs.declared.spots.Spot as spots
use Rattle.ckc_asm.specs.declared.statements.Row as kept
use Rattle.ckc_asm.specs.Cut.{Word}
use Rattle.ckc_asm.specs.Items.{Statement}
use Rattle.ckc_asm.specs.Program.{width_of, size_of, offset_of, address_of, HasLabel}
use Rattle.ckc_asm.specs.Faults.{IsFirstWith, NoneHas, HasOldLabel, IsAt, IsLabel}
use Rattle.ckc_asm.specs.code.Outcome.{IfRefused}
use Rattle.ckc_asm.specs.code.Reading.{IsExact}
use Rattle.ckc_asm.specs.code.Rows.{word_of, statement_in, statements_in}
use Rattle.ckc_asm_lines.proofs.Cases.{bool_cases, last_or_before}

-- ---- places

pub offset_more : (statements : List Statement) (k : ℕ) (s : Statement) → slice_get statements k ≡ Some s → offset_of statements (k + 1) ≡ offset_of statements k + size_of s
offset_more statements k s at =
    sum_by_more size_of statements k s (slice_get_within statements k s at) ∙ ap (λ t. offset_of statements k + size_of t) (get_or_from_slice_get statements k s s at)

pub width_small : (f : Form) → width_of f ≤ 4
width_small form.Nothing = omega arith
width_small _ = omega arith

-- ---- labels

-- the table has exactly the labels of the first k statements
pub record AreLabelsBelow (at : List ℕ → Option ℕ) (statements : List Statement) (k : ℕ) : Type 0 where
  pub sound : (name : List ℕ) (address : ℕ) → at name ≡ Some address → (j : ℕ) × (s : Statement) × (j < k) × (slice_get statements j ≡ Some s) × HasLabel s name × (address ≡ address_of statements j)
  pub found : (j : ℕ) (s : Statement) (name : List ℕ) → j < k → slice_get statements j ≡ Some s → HasLabel s name → at name ≡ Some (address_of statements j)
  pub none : (j : ℕ) (s : Statement) → j < k → slice_get statements j ≡ Some s → HasOldLabel statements j s → ⊥

pub labels_none : (at : List ℕ → Option ℕ) (statements : List Statement) → ((name : List ℕ) → at name ≡ None) → AreLabelsBelow at statements 0
labels_none at statements h = record {
  sound = λ name address e. absurd (let z : None ≡ Some address = sym (h name) ∙ e in cc);
  found = λ j s name l there has. absurd (omega arith);
  none = λ j s l there old. absurd (omega arith);
}

same_text : (s : Statement) (w : Word) (name : List ℕ) → s.label ≡ Some w → HasLabel s name → w.text ≡ name
same_text s w name e has = ap (λ (v : Word). v.text) (same_Some w has.0 (sym e ∙ has.1)) ∙ has.2

-- a label that is not in the table goes in
pub labels_label : (at next : List ℕ → Option ℕ) (statements : List Statement) (k : ℕ) (s : Statement) (w : Word) (address : ℕ) → slice_get statements k ≡ Some s → s.label ≡ Some w
    → address ≡ address_of statements k → at w.text ≡ None → ((name : List ℕ) → next name ≡ cond (bytes_eq w.text name) (Some address) (at name))
    → AreLabelsBelow at statements k → AreLabelsBelow next statements (k + 1)
labels_label at next statements k s w address here label place fresh up below = record {
  sound = λ name a e. ⊎_elim
      (λ (t : bytes_eq w.text name ≡ true).
      let same : w.text ≡ name = (bytes_eq-Decides w.text name).0 t in
      let it : Some address ≡ Some a = sym (up name ∙ ap (λ b. cond b (Some address) (at name)) t) ∙ e in
      (k, s, omega arith, here, (w, label, same), sym (same_Some address a it) ∙ place))
      (λ (f : bytes_eq w.text name ≡ false).
      let old = below.sound name a (sym (up name ∙ ap (λ b. cond b (Some address) (at name)) f) ∙ e) in
      (old.0, old.1, omega (arith, old.2), old.3, old.4, old.5))
      (bool_cases (bytes_eq w.text name));
  found = λ j t name l there has. ⊎_elim
      (λ (b : j < k).
      let old = below.found j t name b there has in
      ⊎_elim
      (λ (y : bytes_eq w.text name ≡ true).
      let same : w.text ≡ name = (bytes_eq-Decides w.text name).0 y in
      let z : None ≡ Some (address_of statements j) = sym fresh ∙ ap at same ∙ old in absurd (cc))
      (λ (n : bytes_eq w.text name ≡ false). up name ∙ ap (λ c. cond c (Some address) (at name)) n ∙ old)
      (bool_cases (bytes_eq w.text name)))
      (λ (e : j ≡ k).
      let is : s ≡ t = same_Some s t (sym here ∙ (ap (slice_get statements) (sym e) ∙ there)) in
      let same : w.text ≡ name = same_text t w name (sym (ap (λ (u : Statement). u.label) is) ∙ label) has in
      up name ∙ ap (λ c. cond c (Some address) (at name)) ((bytes_eq-Decides w.text name).1 same) ∙ ap Some (place ∙ ap (address_of statements) (sym e)))
      (last_or_before j k l);
  none = λ j t l there old. ⊎_elim
      (λ (b : j < k). below.none j t b there old)
      (λ (e : j ≡ k).
      let is : s ≡ t = same_Some s t (sym here ∙ (ap (slice_get statements) (sym e) ∙ there)) in
      let same : w.text ≡ old.0 = same_text t w old.0 (sym (ap (λ (u : Statement). u.label) is) ∙ label) old.6 in
      let was = below.found old.1 old.2 old.0 (omega (arith, old.3)) old.4 old.5 in
      let z : None ≡ Some (address_of statements old.1) = sym fresh ∙ ap at same ∙ was in cc)
      (last_or_before j k l);
}

-- no label, no change
pub labels_other : (at : List ℕ → Option ℕ) (statements : List Statement) (k : ℕ) (s : Statement) → slice_get statements k ≡ Some s → s.label ≡ None
    → AreLabelsBelow at statements k → AreLabelsBelow at statements (k + 1)
labels_other at statements k s here label below = record {
  sound = λ name a e. (let old = below.sound name a e in (old.0, old.1, omega (arith, old.2), old.3, old.4, old.5));
  found = λ j t name l there has. ⊎_elim (λ (b : j < k). below.found j t name b there has)
      (λ (e : j ≡ k). absurd (not_here j t name e there has))
      (last_or_before j k l);
  none = λ j t l there old. ⊎_elim (λ (b : j < k). below.none j t b there old)
      (λ (e : j ≡ k). not_here j t old.0 e there old.6)
      (last_or_before j k l);
}
  where
    not_here : (j : ℕ) (t : Statement) (name : List ℕ) → j ≡ k → slice_get statements j ≡ Some t → HasLabel t name → ⊥
    not_here j t name e there has =
        let is : s ≡ t = same_Some s t (sym here ∙ (ap (slice_get statements) (sym e) ∙ there)) in
        let z : None ≡ Some has.0 = sym label ∙ ap (λ (u : Statement). u.label) is ∙ has.1 in cc

some_of : (o : Option ℕ) → IsSome o → (a : ℕ) × (o ≡ Some a)
some_of None h = absurd (let z : false ≡ true = h in cc)
some_of (Some a) h = (a, refl)

-- a label in the table is one that stands before
pub labels_stop : (at : List ℕ → Option ℕ) (statements : List Statement) (k : ℕ) (s : Statement) (w : Word) → slice_get statements k ≡ Some s → s.label ≡ Some w
    → IsSome (at w.text) → AreLabelsBelow at statements k → IsFirstWith (HasOldLabel statements) statements k s
labels_stop at statements k s w here label there below =
    let a = some_of (at w.text) there in
    let old = below.sound w.text a.0 a.1 in
    record {
      stands = here;
      holds = (w.text, old.0, old.1, old.2, old.3, old.4, (w, label, refl));
      none_before = below.none;
    }

pub labels_all : (at : List ℕ → Option ℕ) (statements : List Statement) (k : ℕ) → length statements ≤ k → AreLabelsBelow at statements k
    → IsExact at statements × NoneHas (HasOldLabel statements) statements
labels_all at statements k h below = (
  record {
    sound = λ name address e. (let old = below.sound name address e in (old.0, old.1, old.3, old.4, old.5));
    complete = λ name address stands. below.found stands.0 stands.1 name (omega (arith, slice_get_within statements stands.0 stands.1 stands.2)) stands.2 stands.3 ∙ ap Some (sym stands.4);
  },
  λ j s there old. below.none j s (omega (arith, slice_get_within statements j s there)) there old,
)

-- ---- by the rows

pub row_at : (rows : List kept.Row) (k : ℕ) (row : kept.Row) → k < length rows → row ≡ get_or rows k row → slice_get (statements_in rows) k ≡ Some (statement_in row)
row_at rows k row h e =
    slice_get-map statement_in rows k ∙ ap (option_map statement_in) (slice_get-get_or rows k row h ∙ ap (λ r. Some r) (sym e))

pub row_label : (row : kept.Row) (label : spots.Spot) → row.label ≡ Some label → (statement_in row).label ≡ Some (word_of label)
row_label row label e = ap (option_map word_of) e

pub old_label : (at : List ℕ → Option ℕ) (statements : List Statement) (k : ℕ) (s : Statement) (w : Word) (e : Fault) → slice_get statements k ≡ Some s → s.label ≡ Some w
    → IfRefused e (λ code place. (code ≡ 803) × (place ≡ record { line = k + 1; col = w.col }) × IsSome (at w.text))
    → AreLabelsBelow at statements k → IfRefused e (λ code place. IsAt (HasOldLabel statements) IsLabel statements place × (code ≡ 803))
old_label at statements k s w (fault.Refused r) here label h below = ((k, s, w, labels_stop at statements k s w here label h.2 below, label, h.1), h.0)
old_label at statements k s w fault.Memory here label h below = tt

pub rows_size : (rows : List kept.Row) → length (statements_in rows) ≡ length rows
rows_size rows = length-map rows statement_in

pub labels_same : (at next : List ℕ → Option ℕ) (statements : List Statement) (k : ℕ) → ((name : List ℕ) → next name ≡ at name) → AreLabelsBelow at statements k → AreLabelsBelow next statements k
labels_same at next statements k same below = record {
  sound = λ name address e. below.sound name address (sym (same name) ∙ e);
  found = λ j s name l there has. same name ∙ below.found j s name l there has;
  none = below.none;
}

pub row_unlabelled : (row : kept.Row) → row.label ≡ None → (statement_in row).label ≡ None
row_unlabelled row e = ap (option_map word_of) e
