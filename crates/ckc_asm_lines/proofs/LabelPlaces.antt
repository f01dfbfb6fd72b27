-- Where a label stands that stands once.
use Rattle.std.proofs.Common.{◌≡◌, ℕ, zero, suc, ◌+◌, ◌<◌, true, false, cond, eqb, not, List, [], ◌∷◌, Some, None, refl, sym, ap, ◌∙◌, subst, arith, eq-eqb, ⊎_elim}
use Rattle.std.specs.List.{slice_get, count_by, position_or_len}
use Rattle.std.proofs.lemmas.List.Sums.{sum_by-cons}
use Rattle.std.proofs.lemmas.Option.{same_Some}
use Rattle.ckc_asm_lines.specs.declared.lines.Line.{Line}
use Rattle.ckc_asm_lines.specs.declared.lines.Line.TheVariants.{Label}
use Rattle.ckc_asm_lines.specs.Assembled.{is_label, StandsAt, address_of, CanStand}
use Rattle.ckc_asm_lines.proofs.Cases.{bool_cases}

counted : (label : ℕ) (x : Line) (lines : List Line) → count_by (is_label label) (x ∷ lines) ≡ cond (is_label label x) 1 0 + count_by (is_label label) lines
counted label x lines = sum_by-cons (λ l. cond (is_label label l) 1 0) x lines

eqb_same : (n : ℕ) → eqb n n ≡ true
eqb_same n = eq-eqb n n refl

is_it : (label : ℕ) (x : Line) → x ≡ Label label → is_label label x ≡ true
is_it label x e = rw e (eqb_same label)

some_counted : (label : ℕ) (lines : List Line) (k : ℕ) → slice_get lines k ≡ Some (Label label) → 0 < count_by (is_label label) lines
some_counted label [] k at = absurd (let z : None ≡ Some (Label label) = at in cc)
some_counted label (x ∷ lines) zero at =
    let one : ◌≡◌ {A = ℕ} (cond (is_label label x) 1 0) 1 = ap (λ b. cond b 1 0) (is_it label x (same_Some x (Label label) at)) in
    omega (arith, counted label x lines, one)
some_counted label (x ∷ lines) (suc k) at = omega (arith, counted label x lines, some_counted label lines k at)

-- a label that is counted once stands at its first place
pub place_is : (label : ℕ) (lines : List Line) (k : ℕ) → count_by (is_label label) lines ≡ 1 → slice_get lines k ≡ Some (Label label) → k ≡ position_or_len (is_label label) lines
place_is label [] k once at = absurd (let z : None ≡ Some (Label label) = at in cc)
place_is label (x ∷ lines) zero once at =
    sym (ap (λ b. cond (not b) (1 + position_or_len (is_label label) lines) 0) (is_it label x (same_Some x (Label label) at)))
place_is label (x ∷ lines) (suc k) once at = ⊎_elim
    (λ (t : is_label label x ≡ true).
    let one : ◌≡◌ {A = ℕ} (cond (is_label label x) 1 0) 1 = ap (λ b. cond b 1 0) t in
    absurd (omega (arith, counted label x lines, one, some_counted label lines k at)))
    (λ (f : is_label label x ≡ false).
    let none : ◌≡◌ {A = ℕ} (cond (is_label label x) 1 0) 0 = ap (λ b. cond b 1 0) f in
    let rest = place_is label lines k (omega (arith, counted label x lines, none)) at in
    let next : suc k ≡ 1 + position_or_len (is_label label) lines = omega arith in
    next ∙ sym (ap (λ b. cond (not b) (1 + position_or_len (is_label label) lines) 0) f))
    (bool_cases (is_label label x))

-- its address
pub address_is : (label : ℕ) (lines : List Line) (address : ℕ) → count_by (is_label label) lines ≡ 1 → StandsAt lines label address → address ≡ address_of lines (position_or_len (is_label label) lines)
address_is label lines address once stands = stands.2 ∙ ap (address_of lines) (place_is label lines stands.0 once stands.1)

-- what holds of each line from the k-th on, one line after another
abbrev pub CanStandFrom : List Line → ℕ → List Line → Type 0
CanStandFrom lines k [] = Unit {0}
CanStandFrom lines k (x ∷ rest) = CanStand lines (address_of lines k) x × CanStandFrom lines (suc k) rest

stand_at : (lines rest : List Line) (k j : ℕ) (line : Line) → CanStandFrom lines k rest → slice_get rest j ≡ Some line → CanStand lines (address_of lines (k + j)) line
stand_at lines [] k j line all at = absurd (let z : None ≡ Some line = at in cc)
stand_at lines (x ∷ rest) k zero line all at =
    let P : Line → Type 0 = λ l. CanStand lines (address_of lines (k + 0)) l in
    let Q : ℕ → Type 0 = λ n. CanStand lines (address_of lines n) x in
    subst P (same_Some x line at) (subst Q (omega arith) all.0)
stand_at lines (x ∷ rest) k (suc j) line all at =
    let Q : ℕ → Type 0 = λ n. CanStand lines (address_of lines n) line in
    subst Q (omega arith) (stand_at lines rest (suc k) j line all.1 at)

pub stand_each : (lines : List Line) → CanStandFrom lines 0 lines → (k : ℕ) (line : Line) → slice_get lines k ≡ Some line → CanStand lines (address_of lines k) line
stand_each lines all k line at =
    let Q : ℕ → Type 0 = λ n. CanStand lines (address_of lines n) line in
    subst Q (omega arith) (stand_at lines lines 0 k line all at)
