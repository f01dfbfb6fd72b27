use Rattle.ckc_syntax.specs.declared.pointers.Pointer.TheVariants as pointer
use Rattle.ckc_resolve.proofs.TakenOff.{taken_off}
use Rattle.ckc_resolve.proofs.types.named_type.Goals as goal

pub pointers-preserved-in-Raw : goal.pointers-preserved-in-Raw
pointers-preserved-in-Raw c = taken_off c.args.names.now _ _ (pointer.Raw _) _ _ _ _ c.in_ok-push-in-Raw.ensures.ok c.in-Raw.is c.get-rest.ensures c.pointers.invariant

pub pointers-preserved-in-One : goal.pointers-preserved-in-One
pointers-preserved-in-One c = taken_off c.args.names.now _ _ pointer.One _ _ _ _ c.in_ok-push-in-One.ensures.ok c.in-One.is c.get-rest-in-One.ensures c.pointers.invariant

pub pointers-preserved-in-Arr : goal.pointers-preserved-in-Arr
pointers-preserved-in-Arr c = taken_off c.args.names.now _ _ pointer.Arr _ _ _ _ c.in_ok-push-in-Arr.ensures.ok c.in-Arr.is c.get-rest-in-Arr.ensures c.pointers.invariant

pub pointers-preserved : goal.pointers-preserved
pointers-preserved c = taken_off c.args.names.now _ _ pointer.Nt _ _ _ _ c.in_ok-push-in-Nt.ensures.ok c.in-Nt.is c.get-rest-in-Nt.ensures c.pointers.invariant
