use Rattle.std.proofs.Common.{rules, ◌∙◌}
use Rattle.std.specs.Int.{w32}
use Rattle.std.proofs.lemmas.Int.{to_z-of_z}
use Rattle.ckc_asm_lines.proofs.LineCodes.{jump_codes, branch_codes}
use Rattle.ckc_asm_lines.proofs.assembler.put_line.Goals as goal

pub offset_to-offset-requires-clause-target : goal.offset_to-offset-requires-clause-target
offset_to-offset-requires-clause-target c = let can = rw c.in-Jump.is at c.requires.can in (can.2 _ c.target_of.ensures).0

pub offset_to-offset-requires-in-Branch-clause-target : goal.offset_to-offset-requires-in-Branch-clause-target
offset_to-offset-requires-in-Branch-clause-target c = let can = rw c.in-Branch.is at c.requires.can in (can.3 _ c.target_of-in-Branch.ensures).0

pub returns-in-Jump : goal.returns-in-Jump
returns-in-Jump c = jump_codes _ _ _ _ _ _ _ _ _ _ c.in-Jump.is c.target_of.ensures (to_z-of_z w32 c.offset_to-offset.result (search rules) ∙ c.offset_to-offset.ensures) c.put-in-Jump.ensures

pub returns-in-Branch : goal.returns-in-Branch
returns-in-Branch c = branch_codes _ _ _ _ _ _ _ _ _ _ _ _ c.in-Branch.is c.target_of-in-Branch.ensures (to_z-of_z w32 c.offset_to-offset-in-Branch.result (search rules) ∙ c.offset_to-offset-in-Branch.ensures) c.put-in-Branch.ensures
