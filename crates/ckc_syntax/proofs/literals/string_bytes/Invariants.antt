use Rattle.std.proofs.Common.{◌≡◌, ◌-◌, ◌≤◌, ◌++◌, length}
use Rattle.ckc_syntax.specs.code.Decoded.{decoded, characters_behind}
use Rattle.ckc_syntax.proofs.literals.string_bytes.Given as goal

-- the bytes so far, with those of the characters after them, are those of the whole
abbrev pub invariant-loop-piece : goal.invariant-loop-piece
invariant-loop-piece l = record {
  within : l.at ≤ length l.text;
  whole : l.bytes ++ characters_behind 34 l.at l.text ≡ decoded l.text;
  same : l.text ≡ l.spelling;
}

abbrev pub decreases-loop-piece : goal.decreases-loop-piece
decreases-loop-piece l = length l.text - l.at
