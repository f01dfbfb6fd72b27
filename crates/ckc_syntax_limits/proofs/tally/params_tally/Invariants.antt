use Rattle.std.proofs.Common.{◌≡◌, drop}
use Rattle.std.specs.Prelude.{flat_map}
use Rattle.ckc_syntax_limits.specs.Marks.{marks_of_param}
use Rattle.ckc_syntax_limits.specs.code.Tally.{tallied}
use Rattle.ckc_syntax_limits.proofs.tally.params_tally.Given as goal

-- counting what is left gives what counting the whole gives
abbrev pub invariant-loop-param : goal.invariant-loop-param
invariant-loop-param g l =
    tallied l.fn.so_far (flat_map marks_of_param l.params) ≡ tallied l.tally (flat_map marks_of_param (drop l.param-index l.params))
