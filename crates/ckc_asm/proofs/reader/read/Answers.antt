use Rattle.std.proofs.Common.{◌≡◌, ◌≤◌, ℕ, List, Result, IfOk, Ok, Err, length, map, ap, inl, inr, ◌∙◌, arith, rules}
use Rattle.std.specs.Borrow.{Bor}
use Rattle.std.specs.Int.{w64}
use Rattle.std.proofs.lemmas.Int.{to_z-of_z}
use Rattle.std.proofs.lemmas.Result.{err_from_is_err_and}
use Rattle.ckc_base.specs.declared.places.Pos.{Pos}
use Rattle.ckc_asm.specs.Cut.{lines_of}
use Rattle.ckc_asm.specs.Faults.{HasNoWord, HasOldLabel, IsAt, IsFirstFault, IsLabel, IsOperand, NamesNothing, WholeFault, out_of_range, second_label, unknown_label}
use Rattle.ckc_asm.specs.code.Reading.{readings_in, IsFormFault}
use Rattle.ckc_asm.specs.code.Rows.{statements_in}
use Rattle.ckc_asm.proofs.Judging.{refused_weaker, err_weaker, lines_short, lines_few, rows_few, code_words, code_fits, image_of, no_image, asm_of, whole_fault, form_fault, ok_of}
use Rattle.ckc_asm.proofs.LabelsBelow.{rows_size}
use Rattle.ckc_asm.proofs.reader.read.Goals as goal

same : (lines given : List (Bor (List ℕ))) (text : List ℕ) → lines ≡ given → map (λ l. l.now) given ≡ lines_of text → map (λ l. l.now) lines ≡ lines_of text
same lines given text e h = ap (map (λ (l : Bor (List ℕ)). l.now)) e ∙ h

pub rows_of-requires-clause-short : goal.rows_of-requires-clause-short
rows_of-requires-clause-short c = lines_short c.args.text.now _ _ (same _ _ c.args.text.now c.as_slice.ensures.value c.in_ok-lines.ensures) c.if-text-gt-LONGEST_TEXT.false

pub rows_of-requires-clause-few : goal.rows_of-requires-clause-few
rows_of-requires-clause-few c =
    let few = lines_few c.args.text.now c.as_slice.result.now (same _ _ c.args.text.now c.as_slice.ensures.value c.in_ok-lines.ensures) in
    omega (arith, few, c.if-text-gt-LONGEST_TEXT.false)

pub returns-in_err-rows-clause-fault : goal.returns-in_err-rows-clause-fault
returns-in_err-rows-clause-fault c =
    let p = err_from_is_err_and c.from_residual-in_err-rows.result c.from_residual-in_err-rows.ensures.1 in
    rw (p.1, p.2) (refused_weaker _ (λ code place. IsFormFault (readings_in c.as_slice.result.now) code place) (λ code place. IsFirstFault c.args.text.now code place)
    (λ code place h. form_fault c.args.text.now c.as_slice.result.now code place (same _ _ c.args.text.now c.as_slice.ensures.value c.in_ok-lines.ensures) c.if-text-gt-LONGEST_TEXT.false h)
    c.in_err-rows.ensures.fault)

pub labels_of-requires : goal.labels_of-requires
labels_of-requires c = rows_few c.args.text.now c.as_slice.result.now c.in_ok-rows.rows.items _ (same _ _ c.args.text.now c.as_slice.ensures.value c.in_ok-lines.ensures) c.if-text-gt-LONGEST_TEXT.false c.in_ok-rows.ensures.rows c.as_slice-statements.ensures.value

pub returns-in_err-labels-clause-fault : goal.returns-in_err-labels-clause-fault
returns-in_err-labels-clause-fault c =
    let p = err_from_is_err_and c.from_residual-in_err-labels.result c.from_residual-in_err-labels.ensures.1 in
    let s = statements_in c.as_slice-statements.result.now in
    rw (p.1, p.2) (refused_weaker _ (λ code place. IsAt (HasOldLabel s) IsLabel s place × (code ≡ second_label)) (λ code place. IsFirstFault c.args.text.now code place)
    (λ code place h. whole_fault c.args.text.now c.as_slice.result.now s code place (same _ _ c.args.text.now c.as_slice.ensures.value c.in_ok-lines.ensures) c.if-text-gt-LONGEST_TEXT.false
    (rw c.as_slice-statements.ensures.value c.in_ok-rows.ensures.rows) (inl h))
    c.in_err-labels.ensures.fault)

pub check_names-requires-clause-few : goal.check_names-requires-clause-few
check_names-requires-clause-few c = rows_few c.args.text.now c.as_slice.result.now c.in_ok-rows.rows.items _ (same _ _ c.args.text.now c.as_slice.ensures.value c.in_ok-lines.ensures) c.if-text-gt-LONGEST_TEXT.false c.in_ok-rows.ensures.rows c.as_slice-statements.ensures.value

pub returns-in_err-check_names-clause-fault : goal.returns-in_err-check_names-clause-fault
returns-in_err-check_names-clause-fault c =
    let p = err_from_is_err_and c.from_residual-in_err-check_names.result c.from_residual-in_err-check_names.ensures.1 in
    let s = statements_in c.as_slice-statements.result.now in
    rw (p.1, p.2) (refused_weaker _ (λ code place. IsAt (NamesNothing s) IsOperand s place × (code ≡ unknown_label)) (λ code place. IsFirstFault c.args.text.now code place)
    (λ code place h. whole_fault c.args.text.now c.as_slice.result.now s code place (same _ _ c.args.text.now c.as_slice.ensures.value c.in_ok-lines.ensures) c.if-text-gt-LONGEST_TEXT.false
    (rw c.as_slice-statements.ensures.value c.in_ok-rows.ensures.rows) (inr (c.in_ok-labels.ensures.labels.1, inl h)))
    c.in_err-check_names.ensures.fault)

pub code_of-requires-clause-few : goal.code_of-requires-clause-few
code_of-requires-clause-few c = rows_few c.args.text.now c.as_slice.result.now c.in_ok-rows.rows.items _ (same _ _ c.args.text.now c.as_slice.ensures.value c.in_ok-lines.ensures) c.if-text-gt-LONGEST_TEXT.false c.in_ok-rows.ensures.rows c.as_slice-statements.ensures.value

pub returns-in_err-code-clause-fault : goal.returns-in_err-code-clause-fault
returns-in_err-code-clause-fault c =
    let p = err_from_is_err_and c.from_residual-in_err-code.result c.from_residual-in_err-code.ensures.1 in
    let s = statements_in c.as_slice-statements.result.now in
    rw (p.1, p.2) (refused_weaker _ (λ code place. IsAt (HasNoWord s) IsOperand s place × (code ≡ out_of_range)) (λ code place. IsFirstFault c.args.text.now code place)
    (λ code place h. whole_fault c.args.text.now c.as_slice.result.now s code place (same _ _ c.args.text.now c.as_slice.ensures.value c.in_ok-lines.ensures) c.if-text-gt-LONGEST_TEXT.false
    (rw c.as_slice-statements.ensures.value c.in_ok-rows.ensures.rows) (inr (c.in_ok-labels.ensures.labels.1, inr (c.in_ok-check_names.ensures.names, inl h))))
    c.in_err-code.ensures.fault)

pub parts_of-requires-clause-words : goal.parts_of-requires-clause-words
parts_of-requires-clause-words c = code_words _ _ c.in_ok-code.ensures.code.0

pub parts_of-requires-clause-code_fits : goal.parts_of-requires-clause-code_fits
parts_of-requires-clause-code_fits c =
    let few = rows_few c.args.text.now c.as_slice.result.now c.in_ok-rows.rows.items _ (same _ _ c.args.text.now c.as_slice.ensures.value c.in_ok-lines.ensures) c.if-text-gt-LONGEST_TEXT.false c.in_ok-rows.ensures.rows c.as_slice-statements.ensures.value in
    code_fits _ _ (omega (arith, rows_size c.as_slice-statements.result.now, few)) c.in_ok-code.ensures.code.0

pub parts_of-requires-clause-initial_fits : goal.parts_of-requires-clause-initial_fits
parts_of-requires-clause-initial_fits c =
    let few = rows_few c.args.text.now c.as_slice.result.now c.in_ok-rows.rows.items _ (same _ _ c.args.text.now c.as_slice.ensures.value c.in_ok-lines.ensures) c.if-text-gt-LONGEST_TEXT.false c.in_ok-rows.ensures.rows c.as_slice-statements.ensures.value in
    omega (arith, c.in_ok-initial.ensures.few, few)

pub returns-clause-parts : goal.returns-clause-parts
returns-clause-parts c =
    asm_of c.args.text.now c.as_slice.result.now (statements_in c.as_slice-statements.result.now) c.parts_of.result (same _ _ c.args.text.now c.as_slice.ensures.value c.in_ok-lines.ensures) c.if-text-gt-LONGEST_TEXT.false
    (rw c.as_slice-statements.ensures.value c.in_ok-rows.ensures.rows) (ok_of c.parts_of.result _ c.in_ok-labels.ensures.labels.1)
    (image_of _ _ _ _ _ c.parts_of.result (to_z-of_z w64 c.entry_of.result (search rules)) c.in_ok-code.ensures.code.0 c.entry_of.ensures c.in_ok-initial.ensures.bytes c.parts_of.ensures.parts) c.parts_of.ensures.proper

pub returns-clause-fault : goal.returns-clause-fault
returns-clause-fault c =
    let s = statements_in c.as_slice-statements.result.now in
    err_weaker c.parts_of.result _ (λ code place. IsFirstFault c.args.text.now code place)
    (λ code place h. whole_fault c.args.text.now c.as_slice.result.now s code place (same _ _ c.args.text.now c.as_slice.ensures.value c.in_ok-lines.ensures) c.if-text-gt-LONGEST_TEXT.false
    (rw c.as_slice-statements.ensures.value c.in_ok-rows.ensures.rows)
    (inr (
      c.in_ok-labels.ensures.labels.1,
      inr (
        c.in_ok-check_names.ensures.names,
        inr (
          c.in_ok-code.ensures.code.1,
          (no_image _ _ _ _ (to_z-of_z w64 c.entry_of.result (search rules)) c.in_ok-code.ensures.code.0 c.entry_of.ensures h.2, h.0, h.1),
        ),
      ),
    ))) c.parts_of.ensures.fault
