use Rattle.std.proofs.Common.{◌≡◌, drop}
use Rattle.std.specs.Prelude.{flat_map}
use Rattle.ckc_syntax_limits.specs.Marks.{marks_of_decl}
use Rattle.ckc_syntax_limits.specs.code.Tally.{tallied}
use Rattle.ckc_syntax_limits.proofs.tally.members_tally.Given as goal

-- counting what is left gives what counting the whole gives
abbrev pub invariant-loop-member : goal.invariant-loop-member
invariant-loop-member g l =
    tallied l.fn.so_far (flat_map marks_of_decl l.members) ≡ tallied l.tally (flat_map marks_of_decl (drop l.member-index l.members))
