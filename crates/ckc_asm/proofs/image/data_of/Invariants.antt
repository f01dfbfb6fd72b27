use Rattle.std.proofs.Common.{◌≡◌, ◌≤◌, ◌*◌, length, take}
use Rattle.std.specs.List.{flat_map}
use Rattle.ckc_asm.specs.Program.{data_bytes}
use Rattle.ckc_asm.specs.code.Rows.{statements_in}
use Rattle.ckc_asm.proofs.image.data_of.Given as goal

abbrev pub invariant-loop-row : goal.invariant-loop-row
invariant-loop-row l = record {
  few : length l.found.items ≤ 16 * l.row-index;
  bytes : l.found.items ≡ flat_map (λ s. data_bytes s.item.form) (take l.row-index (statements_in l.rows));
}
