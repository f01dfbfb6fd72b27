use Rattle.std.proofs.Common.{◌≡◌, ◌-◌, List, ◌++◌, false, slice_index_or}
use Rattle.ckc_asm_lines.specs.declared.lines.Line.{Line}
use Rattle.ckc_emit_templates.specs.code.Saved.{each_lines, kept_lines}
use Rattle.ckc_emit_templates.proofs.saved.put_each.Given as goal

-- with the lines of the registers that are left, the lines are whole
abbrev pub invariant-loop-k : goal.invariant-loop-k
invariant-loop-k l =
    (rest : List Line) → l.out.items ++ each_lines (kept_lines l.restores) (λ j. slice_index_or l.marked j false) (16 - l.k) l.k rest ≡ l.initial.out.items ++ each_lines (kept_lines l.restores) (λ j. slice_index_or l.marked j false) 16 0 rest
