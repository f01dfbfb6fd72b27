use Rattle.std.proofs.Common.{sym, ◌∙◌}
use Rattle.ckc_typed.proofs.Around.{taken_off, terminated_around}
use Rattle.ckc_typed.proofs.types.integer_object.Goals as goal

pub returns-then-is_terminated : goal.returns-then-is_terminated
returns-then-is_terminated c = terminated_around _ _ _ _ _ c.in-Pointer.is c.pointers.invariant (sym c.is_terminated.ensures ∙ c.if-is_terminated.true)

pub pointers-preserved : goal.pointers-preserved
pointers-preserved c = taken_off _ _ _ _ _ c.in-Pointer.is c.pointers.invariant _ c.get-rest.ensures (sym c.is_terminated.ensures ∙ c.if-is_terminated.false)
