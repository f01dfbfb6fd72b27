use Rattle.std.proofs.Common.{◌≡◌, ◌<◌, take}
use Rattle.std.specs.Prelude.{sum_by}
use Rattle.ckc_asm_lines.specs.Assembled.{size_of}
use Rattle.ckc_emit.proofs.blocks.is_below.Given as goal

-- the bytes of the lines so far
abbrev pub invariant-loop-line : goal.invariant-loop-line
invariant-loop-line l = record {
  bytes : l.bytes ≡ sum_by size_of (take l.line-index l.lines);
  few : l.bytes < 4097;
}
