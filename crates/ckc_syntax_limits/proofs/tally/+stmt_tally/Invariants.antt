use Rattle.std.proofs.Common.{◌≡◌, drop}
use Rattle.std.specs.Prelude.{flat_map}
use Rattle.ckc_syntax_limits.specs.Marks.{marks_of_stmt}
use Rattle.ckc_syntax_limits.specs.code.Tally.{tallied}
use Rattle.ckc_syntax_limits.proofs.tally.+stmt_tally.Given as goal

-- counting what is left gives what counting the whole gives
abbrev pub invariant-stmts_tally-loop-stmt : goal.invariant-stmts_tally-loop-stmt
invariant-stmts_tally-loop-stmt g l =
    tallied l.fn.so_far (flat_map marks_of_stmt l.stmts) ≡ tallied l.tally (flat_map marks_of_stmt (drop l.stmt-index l.stmts))
