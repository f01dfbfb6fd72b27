use Rattle.ckc_test_code.proofs.Pieces.{more_fine}
use Rattle.ckc_test_code.proofs.stmts.+stmt.Goals as goal

pub block-loop-turn-preserved : goal.block-loop-turn-preserved
block-loop-turn-preserved t c =
    more_fine c.args.params.now c.args.locals c.args.looped c.loop-turn.stmts c.in_ok-s.s c.push.new.self c.in_ok-push.ensures.ok c.loop-turn.invariant c.in_ok-s.ensures
