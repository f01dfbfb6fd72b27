use Rattle.std.proofs.Common.{◌≡◌, ℕ, ◌<◌, length, slice_index}
use Rattle.ckc_emit.specs.code.ProgramLines.{label_of}
use Rattle.ckc_emit.proofs.program.labels_of.Given as goal

-- the labels of the functions so far
abbrev pub invariant-loop-f : goal.invariant-loop-f
invariant-loop-f l = record {
  each : length l.labels.items ≡ l.f-index;
  are : (k : ℕ) → k < l.f-index → slice_index l.labels.items k ≡ label_of l.funcs k;
  next : l.next ≡ label_of l.funcs l.f-index;
}
