use Rattle.std.proofs.Common.{◌≡◌, List, ◌++◌, drop}
use Rattle.ckc_asm_lines.specs.declared.lines.Line.{Line}
use Rattle.ckc_emit.specs.code.ProgramLines.{label_of, functions_lines}
use Rattle.ckc_emit.proofs.program.put_functions.Given as goal

-- with those of the rest, the lines are all
abbrev pub invariant-loop-f : goal.invariant-loop-f
invariant-loop-f l = record {
  lines : (rest : List Line) → l.out.items ++ functions_lines l.p.funcs l.label (drop l.f-index l.p.funcs) rest ≡ l.initial.out.items ++ functions_lines l.p.funcs 1 l.p.funcs rest;
  label : l.label ≡ label_of l.p.funcs l.f-index;
}
