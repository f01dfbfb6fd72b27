use Rattle.std.proofs.Common.{◌≡◌, ◌+◌, List, ◌++◌, drop}
use Rattle.std.specs.Prelude.{sum_by}
use Rattle.ckc_asm_lines.specs.declared.lines.Line.{Line}
use Rattle.ckc_frame.specs.Meaning.{is_call}
use Rattle.ckc_emit.specs.code.ProgramLines.{ops_lines}
use Rattle.ckc_emit.proofs.blocks.put_ops.Given as goal

-- with those of the rest, the lines and the calls are all
abbrev pub invariant-loop-op : goal.invariant-loop-op
invariant-loop-op l = record {
  lines : (rest : List Line) → l.out.items ++ ops_lines l.p.funcs l.f l.calls (drop l.op-index l.ops) rest ≡ l.initial.out.items ++ ops_lines l.p.funcs l.f l.before l.ops rest;
  counted : l.calls + sum_by is_call (drop l.op-index l.ops) ≡ l.before + sum_by is_call l.ops;
}
