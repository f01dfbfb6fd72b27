use Rattle.std.proofs.Common.{◌≡◌, ◌+◌, ◌≤◌, take}
use Rattle.ckc_lexer.specs.code.Reading.{moved}
use Rattle.ckc_lexer.proofs.lexer.moved.Given as goal

abbrev pub invariant-loop-b : goal.invariant-loop-b
invariant-loop-b l = record {
  moved : l.here ≡ moved l.fn.here (take l.b-index l.word);
  line : l.here.line ≤ l.fn.here.line + l.b-index;
  col : l.here.col ≤ l.fn.here.col + l.b-index;
}
