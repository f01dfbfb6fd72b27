use Rattle.ckc_bounds.proofs.WholeBodies.{counted_done, counted_none}
use Rattle.ckc_bounds.proofs.bodies.counted.Goals as goal

pub returns-in-Ok : goal.returns-in-Ok
returns-in-Ok c =
    counted_done c.args.frame.now c.args.head.now c.args.h.now c.args.body.now c.args.first _ c.in_ok-walk.ensures _ _ _ c.in-Ok.ensures c.saturating_sub.ensures

pub returns-in-Err-Refused : goal.returns-in-Err-Refused
returns-in-Err-Refused c =
    counted_none c.args.frame.now c.args.head.now c.args.h.now c.args.body.now c.args.first _ c.in_ok-walk.ensures _ (rw c.in-Err-Refused.field-0-is at c.in-Err-Refused.ensures)
