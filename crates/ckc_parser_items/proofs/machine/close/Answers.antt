use Rattle.std.proofs.Common.{sym, ◌∙◌}
use Rattle.ckc_parser_items.proofs.Playing.{next_action, all_actions}
use Rattle.ckc_parser_items.proofs.machine.close.Goals as goal

pub loop-k-preserved : goal.loop-k-preserved
loop-k-preserved c =
    next_action c.lengths.result.now c.programs.result.now c.args.rule c.in-Some.length c.loop-k.k c.in-Some-byte_at.b c.args.held.now c.loop-k.held c.act.new.held c.lengths.ensures c.programs.ensures
    (sym c.in-Some.is ∙ c.byte_at.ensures) c.loop-k-test.true (sym c.in-Some-byte_at.is ∙ c.byte_at-in-loop-k.ensures) c.in_ok-act.ensures c.loop-k.invariant

pub returns : goal.returns
returns c = all_actions c.lengths.result.now c.args.rule c.in-Some.length c.loop-k.k c.args.held.now c.loop-k.held c.lengths.ensures (sym c.in-Some.is ∙ c.byte_at.ensures) c.loop-k-test.false c.loop-k.invariant
