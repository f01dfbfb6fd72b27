use Rattle.std.proofs.Common.{refl}
use Rattle.ckc_passes_redundant.specs.declared.table.Look.{Look}
use Rattle.ckc_passes_redundant.specs.code.Tables.{look_of}
use Rattle.ckc_passes_redundant.proofs.Noting.{notes_inserted}
use Rattle.ckc_passes_redundant.proofs.table.Table.note.Goals as goal

pub returns : goal.returns
returns c =
    let e = c.in_ok-is_new.ensures in
    let look : Look = record { check = c.check_number-check.result; value = c.args.value } in
    notes_inserted look (look_of c.args.check c.args.value) c.args.self.now (record c.args.self.now { looks = c.insert.new.self }) c.in_ok-is_new.is_new
    (λ i. record { check = c.check_number-check.ensures i; value = c.args.value }) e.keys e.added (λ r. refl) refl
