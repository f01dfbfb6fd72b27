use Rattle.std.proofs.Common.{◌≡◌, ◌≤◌, List, ◌++◌, length, drop}
use Rattle.ckc_asm_lines.specs.declared.lines.Line.{Line}
use Rattle.ckc_emit.specs.code.CallLines.{arguments_lines}
use Rattle.ckc_emit.proofs.calls.put_arguments.Given as goal

-- the lines are those of the arguments from one on
abbrev pub invariant-loop-i : goal.invariant-loop-i
invariant-loop-i l =
    (l.i ≤ length l.args) × ((rest : List Line) → l.out.items ++ rest ≡ l.initial.out.items ++ arguments_lines l.homes (drop l.i l.args) l.i l.params rest)

abbrev pub decreases-loop-i : goal.decreases-loop-i
decreases-loop-i l = l.i
