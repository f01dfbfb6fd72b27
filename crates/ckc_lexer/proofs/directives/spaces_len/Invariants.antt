use Rattle.std.proofs.Common.{◌≡◌, ◌+◌, ◌≤◌, length, drop}
use Rattle.std.specs.List.{prefix_len}
use Rattle.ckc_lexer.specs.Bytes.{is_space}
use Rattle.ckc_lexer.proofs.directives.spaces_len.Given as goal

abbrev pub invariant-loop-k : goal.invariant-loop-k
invariant-loop-k l = (l.k ≤ length l.text) × (l.k + prefix_len is_space (drop l.k l.text) ≡ prefix_len is_space l.text)
