-- The statements of the first lines of a text.
use Rattle.std.proofs.Common.{◌≡◌, ℕ, suc, zero, ◌+◌, ◌<◌, ◌≤◌, Bool, true, false, List, [], ◌∷◌, ◌++◌, length, take, get_or, map, Option, Some, None, refl, sym, ap, ◌∙◌, ◌⊎◌, inl, inr, ⊎_elim, arith, subst, ◌↔◌}
use Rattle.std.specs.Bool.{IsTrue}
use Rattle.std.specs.Borrow.{Bor}
use Rattle.std.specs.List.{slice_get}
use Rattle.std.specs.Option.{option_map}
use Rattle.std.proofs.lemmas.List.{map-append, length-map, take_more, take_all}
use Rattle.std.proofs.lemmas.Option.{same_Some, slice_get_within, slice_get-get_or, slice_get-map, get_or_from_slice_get}
use Rattle.ckc_base.specs.declared.fault.Fault.{Fault}
use Rattle.ckc_base.specs.declared.fault.Fault.TheVariants as fault
use Rattle.ckc_asm.specs.Items.{Statement}
use Rattle.ckc_asm.specs.code.Found.{reading}
use Rattle.ckc_asm.specs.code.Outcome.{IfRefused}
use Rattle.ckc_asm.specs.Program.{IsEntry}
use Rattle.ckc_asm.specs.Faults.{IsFirstWith}
use Rattle.ckc_asm.specs.code.Reading.{ReadsEntry, IsUnread, HasTarget, HaveTargets, AreRead, IsRefusedLine, IsFormFault, readings_in}
use Rattle.ckc_asm_lines.proofs.Cases.{bool_cases, last_or_before}

-- the first k lines have these statements; whether one is `.entry`
pub record AreRowsBelow (lines : List (Option Statement)) (k : ℕ) (entered : Bool) (statements : List Statement) : Type 0 where
  pub form : take k lines ≡ map (λ s. Some s) statements
  pub none : (j : ℕ) (line : Option Statement) → j < k → slice_get lines j ≡ Some line → IsUnread lines j line → ⊥
  pub targets : HaveTargets statements
  pub some_entry : entered ≡ true → (j : ℕ) × (line : Option Statement) × (j < k) × (slice_get lines j ≡ Some line) × ReadsEntry line
  pub no_entry : entered ≡ false → (j : ℕ) (line : Option Statement) → j < k → slice_get lines j ≡ Some line → ReadsEntry line → ⊥

pub rows_none : (lines : List (Option Statement)) → AreRowsBelow lines 0 false []
rows_none lines = record {
  form = refl;
  none = λ j line h at bad. absurd (omega arith);
  targets = λ k s at. absurd (let z : None ≡ Some s = at in cc);
  some_entry = λ e. absurd (let z : false ≡ true = e in cc);
  no_entry = λ e j line h at reads. absurd (omega arith);
}

-- an element of a list with one more
pub of_push : {A : Type 0} (xs : List A) (x y : A) (k : ℕ) → slice_get (xs ++ x ∷ []) k ≡ Some y → (slice_get xs k ≡ Some y) ⊎ (x ≡ y)
of_push [] x y zero at = inr (same_Some x y at)
of_push [] x y (suc k) at = absurd (let z : None ≡ Some y = at in cc)
of_push (z ∷ xs) x y zero at = inl at
of_push (z ∷ xs) x y (suc k) at = of_push xs x y k at

pub rows_more : (lines : List (Option Statement)) (k : ℕ) (entered next : Bool) (statements : List Statement) (s : Statement) → slice_get lines k ≡ Some (Some s)
    → (entered ≡ true → IsEntry s.item.form → ⊥) → HasTarget s.item → ((next ≡ true) ↔ ((entered ≡ true) ⊎ IsEntry s.item.form))
    → AreRowsBelow lines k entered statements → AreRowsBelow lines (k + 1) next (statements ++ s ∷ [])
rows_more lines k entered next statements s at once target now below = record {
  form =
      take_more lines k (Some s) (slice_get_within lines k (Some s) at)
      ∙ ap (λ l. take k lines ++ l ∷ []) (get_or_from_slice_get lines k (Some s) (Some s) at)
      ∙ ap (λ l. l ++ Some s ∷ []) below.form
      ∙ sym (map-append (λ t. Some t) statements (s ∷ []));
  none = λ j line h there bad. ⊎_elim (λ (l : j < k). below.none j line l there bad)
      (λ (e : j ≡ k).
      let is : Some s ≡ line = same_Some (Some s) line (sym at ∙ (ap (slice_get lines) (sym e) ∙ there)) in
      here line is j e bad)
      (last_or_before j k h);
  targets = λ j t there. ⊎_elim (λ (l : slice_get statements j ≡ Some t). below.targets j t l) (λ (e : s ≡ t). subst (λ (t' : Statement). HasTarget t'.item) e target) (of_push statements s t j there);
  some_entry = λ e. ⊎_elim
      (λ (f : entered ≡ true). let w = below.some_entry f in (w.0, w.1, omega (arith, w.2), w.3, w.4))
      (λ (f : IsEntry s.item.form). (k, Some s, omega arith, at, f))
      (now.0 e);
  no_entry = λ e j line h there reads. ⊎_elim
      (λ (f : entered ≡ true). let z : next ≡ true = now.1 (inl f) in let y : true ≡ false = sym z ∙ e in cc)
      (λ (f : entered ≡ false). ⊎_elim (λ (l : j < k). below.no_entry f j line l there reads)
      (λ (g : j ≡ k).
      let is : Some s ≡ line = same_Some (Some s) line (sym at ∙ (ap (slice_get lines) (sym g) ∙ there)) in
      let z : next ≡ true = now.1 (inr (subst (λ l. ReadsEntry l) (sym is) reads)) in let y : true ≡ false = sym z ∙ e in cc)
      (last_or_before j k h))
      (bool_cases entered);
}
  where
    not_early : (i : ℕ) (earlier : Option Statement) → i < k → slice_get lines i ≡ Some earlier → ReadsEntry earlier → IsEntry s.item.form → ⊥
    not_early i earlier l there reads entry = ⊎_elim
        (λ (f : entered ≡ true). once f entry)
        (λ (f : entered ≡ false). below.no_entry f i earlier l there reads)
        (bool_cases entered)

    here : (line : Option Statement) → Some s ≡ line → (j : ℕ) → j ≡ k → IsUnread lines j line → ⊥
    here line is j e bad = ⊎_elim
        (λ (n : line ≡ None). let z : Some s ≡ None = is ∙ n in cc)
        (λ w. not_early w.0 w.1 (omega (arith, w.2)) w.3 w.4 (subst (λ l. ReadsEntry l) (sym is) w.5))
        bad

-- a line that is refused is the first with a fault of form
pub rows_stop : (lines : List (Option Statement)) (k : ℕ) (entered : Bool) (statements : List Statement) (line : Option Statement) → slice_get lines k ≡ Some line
    → IsRefusedLine entered line → AreRowsBelow lines k entered statements → IsFirstWith (IsUnread lines) lines k line
rows_stop lines k entered statements line at refused below = record {
  stands = at;
  holds = ⊎_elim (λ (n : line ≡ None). inl n) (λ w. let e = below.some_entry w.0 in inr (e.0, e.1, e.2, e.3, e.4, w.1)) refused;
  none_before = below.none;
}

pub rows_all : (lines : List (Option Statement)) (k : ℕ) (entered : Bool) (statements : List Statement) → length lines ≤ k → AreRowsBelow lines k entered statements → AreRead lines statements
rows_all lines k entered statements h below = record {
  form = sym (take_all k lines h) ∙ below.form;
  entries = λ j line at bad. below.none j line (omega (arith, slice_get_within lines j line at)) at bad;
  targets = below.targets;
}

-- ---- by the lines

pub reading_at : (lines : List (Bor (List ℕ))) (k : ℕ) (line : Bor (List ℕ)) → k < length lines → slice_get (readings_in lines) k ≡ Some (reading (get_or lines k line).now)
reading_at lines k line h =
    slice_get-map reading (map (λ l. l.now) lines) k
    ∙ ap (option_map reading) (slice_get-map (λ (l : Bor (List ℕ)). l.now) lines k ∙ ap (option_map (λ (l : Bor (List ℕ)). l.now)) (slice_get-get_or lines k line h))

pub lines_more : (lines : List (Bor (List ℕ))) (k : ℕ) (line : Bor (List ℕ)) (entered next : Bool) (statements given : List Statement) (s : Statement) → k < length lines
    → (reading (get_or lines k line).now ≡ Some s) × HasTarget s.item × (IsTrue entered → IsEntry s.item.form → ⊥)
    → (IsTrue next ↔ (IsTrue entered ⊎ IsEntry s.item.form)) → given ≡ statements ++ s ∷ []
    → AreRowsBelow (readings_in lines) k entered statements → AreRowsBelow (readings_in lines) (k + 1) next given
lines_more lines k line entered next statements given s h read now e below =
    rw e (rows_more (readings_in lines) k entered next statements s (reading_at lines k line h ∙ ap Some read.0) read.2 read.1 now below)

pub lines_stop : (lines : List (Bor (List ℕ))) (k : ℕ) (line : Bor (List ℕ)) (entered : Bool) (statements : List Statement) (e : Fault) → k < length lines
    → IfRefused e (λ code place. (code ≡ 801) × (place ≡ record { line = k + 1; col = 1 }) × IsRefusedLine entered (reading (get_or lines k line).now))
    → AreRowsBelow (readings_in lines) k entered statements → IfRefused e (λ code place. IsFormFault (readings_in lines) code place)
lines_stop lines k line entered statements (fault.Refused r) h bad below =
    let at = reading_at lines k line h in
    (k, reading (get_or lines k line).now, rows_stop (readings_in lines) k entered statements (reading (get_or lines k line).now) at bad.2 below, bad.0, bad.1)
lines_stop lines k line entered statements fault.Memory h bad below = tt

pub lines_all : (lines : List (Bor (List ℕ))) (k : ℕ) (entered : Bool) (statements : List Statement) → length lines ≤ k → AreRowsBelow (readings_in lines) k entered statements → AreRead (readings_in lines) statements
lines_all lines k entered statements h below = rows_all (readings_in lines) k entered statements (omega (arith, lengths)) below
  where
    lengths : length (readings_in lines) ≡ length lines
    lengths = simp length-map
