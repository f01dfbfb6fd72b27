use Rattle.std.proofs.Common.{◌≡◌, Bool, true, false, sym, ◌∙◌, arith, rules}
use Rattle.std.specs.Int.{w64}
use Rattle.std.proofs.lemmas.Int.{to_z-of_z}
use Rattle.ckc_asm.specs.Program as program
use Rattle.ckc_asm.specs.code.Rows.{statement_in}
use Rattle.ckc_asm.proofs.LabelsBelow.{row_at, rows_size}
use Rattle.ckc_asm.proofs.LabelUses.{named_known, none_more, none_all, enters_here}
use Rattle.ckc_asm.proofs.image.entry_of.Goals as goal

not_entry : (b : Bool) → b ≡ false → b ≡ true → ⊥
not_entry b e f = let z : false ≡ true = sym e ∙ f in cc

pub entry_value-requires-clause-target : goal.entry_value-requires-clause-target
entry_value-requires-clause-target c =
    let here = row_at c.args.rows.now c.loop-row.row-index c.row-item.result c.loop-row-test.true c.row-item.is in
    c.requires.targets _ (statement_in c.row-item.result) here (c.is_entry.ensures.0 c.if-is_entry.true)

pub entry_value-requires-clause-named : goal.entry_value-requires-clause-named
entry_value-requires-clause-named c =
    let here = row_at c.args.rows.now c.loop-row.row-index c.row-item.result c.loop-row-test.true c.row-item.is in
    named_known _ _ _ (statement_in c.row-item.result) c.requires.exact here c.requires.named

pub returns-then-is_entry : goal.returns-then-is_entry
returns-then-is_entry c =
    let here = row_at c.args.rows.now c.loop-row.row-index c.row-item.result c.loop-row-test.true c.row-item.is in
    rw (to_z-of_z w64 c.entry_value.result (search rules)) (enters_here _ _ _ (statement_in c.row-item.result) c.entry_value.result c.requires.exact here (c.is_entry.ensures.0 c.if-is_entry.true) c.entry_value.ensures)

pub loop-row-preserved : goal.loop-row-preserved
loop-row-preserved c =
    let here = row_at c.args.rows.now c.loop-row.row-index c.row-item.result c.loop-row-test.true c.row-item.is in
    none_more _ _ _ (statement_in c.row-item.result) here (λ e. not_entry _ c.if-is_entry.false (c.is_entry.ensures.1 e)) c.loop-row.invariant

pub returns : goal.returns
returns c = program.first (none_all _ _ _ (omega (arith, rows_size c.args.rows.now)) c.loop-row.invariant) (to_z-of_z w64 c.from.result (search rules) ∙ c.from.ensures)
