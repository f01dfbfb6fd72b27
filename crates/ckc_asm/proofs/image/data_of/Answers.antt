use Rattle.std.proofs.Common.{◌≡◌, ℕ, ◌+◌, ◌*◌, ◌≤◌, List, ◌++◌, [], length, ap, ◌∙◌, sym, arith, length-append}
use Rattle.std.proofs.lemmas.List.{append-nil}
use Rattle.ckc_asm.specs.Program.{data_bytes}
use Rattle.ckc_asm.specs.code.Rows.{statement_in, statements_in}
use Rattle.ckc_asm.proofs.LabelsBelow.{row_at}
use Rattle.ckc_asm.proofs.LabelUses.{data_more, no_data}
use Rattle.ckc_asm.proofs.image.data_of.Goals as goal
use Rattle.ckc_asm.proofs.image.data_of.Goals.{in-Data+in_ok-extend_from_slice, in_default}

same_items : (done new found bytes given wanted : List ℕ) → found ≡ new → new ≡ done ++ given → given ≡ bytes → wanted ≡ bytes → found ≡ done ++ wanted
same_items done new found bytes given wanted a b e f = a ∙ b ∙ ap (λ l. done ++ l) (e ∙ sym f)

no_items : (done found wanted : List ℕ) → found ≡ done → wanted ≡ [] → found ≡ done ++ wanted
no_items done found wanted a e = a ∙ sym (append-nil done) ∙ ap (λ l. done ++ l) (sym e)

few_more : (k : ℕ) (done new found given : List ℕ) → found ≡ new → new ≡ done ++ given → length given ≤ 16 → length done ≤ 16 * k → length found ≤ 16 * (k + 1)
few_more k done new found given a b h l =
    let e : length found ≡ length done + length given = ap length (a ∙ b) ∙ length-append done given in
    omega arith

few_same : (k : ℕ) (done found : List ℕ) → found ≡ done → length done ≤ 16 * k → length found ≤ 16 * (k + 1)
few_same k done found a l = let e : length found ≡ length done = ap length a in omega arith

pub loop-row-preserved : goal.loop-row-preserved
loop-row-preserved c =
    let here = row_at c.args.rows.now c.loop-row.row-index c.row-item.result c.loop-row-test.true c.row-item.is in
    let s = statement_in c.row-item.result in
    record {
      few = elim c.match-row.branch [
        | in-Data+in_ok-extend_from_slice w ↦ few_more _ _ _ _ _ (ap (λ v. v.items) w.found-is) w.in_ok-extend_from_slice.ensures.items w.as_slice.ensures.few c.loop-row.invariant.few
        | in_default w ↦ few_same _ _ _ (ap (λ v. v.items) w.found-is) c.loop-row.invariant.few
      ];
      bytes = elim c.match-row.branch [
        | in-Data+in_ok-extend_from_slice w ↦
            data_more (statements_in c.args.rows.now) c.loop-row.row-index s _ _ here (same_items _ _ _ _ _ _ (ap (λ v. v.items) w.found-is) w.in_ok-extend_from_slice.ensures.items w.as_slice.ensures.bytes (ap data_bytes w.in-Data.is)) c.loop-row.invariant.bytes
        | in_default w ↦ data_more (statements_in c.args.rows.now) c.loop-row.row-index s _ _ here (no_items _ _ _ (ap (λ v. v.items) w.found-is) (no_data _ w.in_default.not-Data)) c.loop-row.invariant.bytes
      ];
    }
