use Rattle.std.proofs.Common.{◌≡◌, drop}
use Rattle.std.specs.Prelude.{flat_map}
use Rattle.ckc_syntax_limits.specs.Marks.{marks_of_expr}
use Rattle.ckc_syntax_limits.specs.code.Tally.{tallied}
use Rattle.ckc_syntax_limits.proofs.tally.+expr_tally.Given as goal

-- counting what is left gives what counting the whole gives
abbrev pub invariant-exprs_tally-loop-e : goal.invariant-exprs_tally-loop-e
invariant-exprs_tally-loop-e g l =
    tallied l.fn.so_far (flat_map marks_of_expr l.es) ≡ tallied l.tally (flat_map marks_of_expr (drop l.e-index l.es))
