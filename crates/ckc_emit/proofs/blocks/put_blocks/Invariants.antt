use Rattle.std.proofs.Common.{◌≡◌, ◌+◌, List, ◌++◌, drop}
use Rattle.std.specs.Prelude.{sum_by}
use Rattle.ckc_asm_lines.specs.declared.lines.Line.{Line}
use Rattle.ckc_frame.specs.Meaning.{calls_in}
use Rattle.ckc_emit.specs.code.ProgramLines.{blocks_lines}
use Rattle.ckc_emit.proofs.blocks.put_blocks.Given as goal

-- with those of the rest, the lines and the calls are all
abbrev pub invariant-loop-block : goal.invariant-loop-block
invariant-loop-block l = record {
  lines : (rest : List Line) → l.out.items ++ blocks_lines l.near l.turned l.p.funcs l.f l.first l.b l.calls (drop l.block-index l.f.code.blocks) rest
      ≡ l.initial.out.items ++ blocks_lines l.near l.turned l.p.funcs l.f l.first 0 0 l.f.code.blocks rest;
  numbered : l.b ≡ l.block-index;
  counted : l.calls + sum_by calls_in (drop l.block-index l.f.code.blocks) ≡ sum_by calls_in l.f.code.blocks;
}
