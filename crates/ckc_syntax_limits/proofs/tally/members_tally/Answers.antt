use Rattle.std.proofs.Common.{◌+◌, drop, ap, sym, ◌∙◌}
use Rattle.std.specs.Prelude.{flat_map}
use Rattle.ckc_syntax_limits.specs.Marks.{marks_of_decl}
use Rattle.ckc_syntax_limits.specs.code.Tally.{tallied}
use Rattle.ckc_syntax_limits.proofs.Tallies.{tallied_turn}
use Rattle.ckc_syntax_limits.proofs.tally.members_tally.Goals as goal

pub loop-member-preserved : goal.loop-member-preserved
loop-member-preserved g c =
    let rest = flat_map marks_of_decl (drop (c.loop-member.member-index + 1) c.args.members.now) in
    c.loop-member.invariant
    ∙ tallied_turn marks_of_decl c.loop-member.tally c.args.members.now c.loop-member.member-index c.member-item.result c.loop-member-test.true c.member-item.is
    ∙ ap (λ t. tallied t rest) (sym c.decl_tally-tally.ensures)
