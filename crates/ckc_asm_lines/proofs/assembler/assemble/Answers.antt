-- What the table and the code say of all lines.
use Rattle.std.proofs.Common.{◌∙◌}
use Rattle.ckc_asm_lines.proofs.PlaceTable.{can_encode, is_known, all_of}
use Rattle.ckc_asm_lines.proofs.assembler.assemble.Goals as goal

pub code_of-requires-clause-each : goal.code_of-requires-clause-each
code_of-requires-clause-each c =
    let can = rw (← c.as_slice-lines.ensures) at c.requires in
    λ k line at. can_encode _ _ _ line c.in_ok-places.ensures can.code_fits (can.each k line at)

pub target_of-entry-requires : goal.target_of-entry-requires
target_of-entry-requires c =
    let can = rw (← c.as_slice-lines.ensures) at c.requires in
    is_known _ _ _ c.in_ok-places.ensures can.once

pub invariant_of-result : goal.invariant_of-result
invariant_of-result c = record {
  proper = (all_of _ _ _ _ _ _ _ _ _ c.as_slice-lines.ensures c.from_vec.ensures (c.in_ok-initial.ensures ∙ c.as_slice.ensures)
      c.in_ok-places.ensures c.in_ok-code.ensures c.target_of-entry.ensures c.requires).1;
}

pub returns : goal.returns
returns c =
    (all_of _ _ _ _ _ _ _ _ _ c.as_slice-lines.ensures c.from_vec.ensures (c.in_ok-initial.ensures ∙ c.as_slice.ensures)
    c.in_ok-places.ensures c.in_ok-code.ensures c.target_of-entry.ensures c.requires).0
