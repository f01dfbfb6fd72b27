use Rattle.std.proofs.Common.{sym, ◌∙◌}
use Rattle.std.proofs.lemmas.Result.{IfOk-from_err}
use Rattle.ckc_syntax.specs.declared.tree.Node.{Node-F}
use Rattle.ckc_syntax.specs.declared.tree.Node.TheVariants as node
use Rattle.ckc_source.specs.Code.{expr_of}
use Rattle.ckc_build_values.proofs.Parts.{node_part, expr_part, ctype_part, binary_value, index_address, pick_value}
use Rattle.ckc_build_values.proofs.expressions.+expr.Goals as goal

pub target-returns-in_err-pointer : goal.target-returns-in_err-pointer
target-returns-in_err-pointer t c = IfOk-from_err c.from_residual.result _ c.from_residual.ensures.0

pub elements_of-returns-in_err-bytes-in-ByteCount : goal.elements_of-returns-in_err-bytes-in-ByteCount
elements_of-returns-in_err-bytes-in-ByteCount t c = IfOk-from_err c.from_residual.result _ c.from_residual.ensures.0

pub node_place-returns-in_err-pointer-in-Index : goal.node_place-returns-in_err-pointer-in-Index
node_place-returns-in_err-pointer-in-Index t c = IfOk-from_err c.from_residual.result _ c.from_residual.ensures.0

pub node_place-returns-in_err-second-in-Index : goal.node_place-returns-in_err-second-in-Index
node_place-returns-in_err-second-in-Index t c = IfOk-from_err c.from_residual-in_err-second-in-Index.result _ c.from_residual-in_err-second-in-Index.ensures.0

pub node_place-returns-in_err-index-in-Index : goal.node_place-returns-in_err-index-in-Index
node_place-returns-in_err-index-in-Index t c = IfOk-from_err c.from_residual-in_err-index-in-Index.result _ c.from_residual-in_err-index-in-Index.ensures.0

pub node_place-returns-in_err-place-in-Dot : goal.node_place-returns-in_err-place-in-Dot
node_place-returns-in_err-place-in-Dot t c = IfOk-from_err c.from_residual-in_err-place-in-Dot.result _ c.from_residual-in_err-place-in-Dot.ensures.0

pub node_place-returns-in_err-place-in-Arrow : goal.node_place-returns-in_err-place-in-Arrow
node_place-returns-in_err-place-in-Arrow t c = IfOk-from_err c.from_residual-in_err-place-in-Arrow.result _ c.from_residual-in_err-place-in-Arrow.ensures.0

pub node_address-returns-in_err-pointer-in-Un-Deref-default : goal.node_address-returns-in_err-pointer-in-Un-Deref-default
node_address-returns-in_err-pointer-in-Un-Deref-default t c = IfOk-from_err c.from_residual.result _ c.from_residual.ensures.0

pub node_address-returns-in_err-left-in-Index : goal.node_address-returns-in_err-left-in-Index
node_address-returns-in_err-left-in-Index t c = IfOk-from_err c.from_residual-in_err-left-in-Index.result _ c.from_residual-in_err-left-in-Index.ensures.0

pub node_address-returns-in_err-second-in-Index : goal.node_address-returns-in_err-second-in-Index
node_address-returns-in_err-second-in-Index t c = IfOk-from_err c.from_residual-in_err-second-in-Index.result _ c.from_residual-in_err-second-in-Index.ensures.0

pub node_address-returns-in_err-right-in-Index : goal.node_address-returns-in_err-right-in-Index
node_address-returns-in_err-right-in-Index t c = IfOk-from_err c.from_residual-in_err-right-in-Index.result _ c.from_residual-in_err-right-in-Index.ensures.0

pub node_address-returns-in_err-place-in_default : goal.node_address-returns-in_err-place-in_default
node_address-returns-in_err-place-in_default t c = IfOk-from_err c.from_residual-in_err-place-in_default.result _ c.from_residual-in_err-place-in_default.ensures.0

pub unary_value-returns-in_err-place-in-Deref : goal.unary_value-returns-in_err-place-in-Deref
unary_value-returns-in_err-place-in-Deref t c = IfOk-from_err c.from_residual.result _ c.from_residual.ensures.0

pub unary_value-returns-in_err-operand-in_default : goal.unary_value-returns-in_err-operand-in_default
unary_value-returns-in_err-operand-in_default t c = IfOk-from_err c.from_residual-in_err-operand-in_default.result _ c.from_residual-in_err-operand-in_default.ensures.0

pub node_value-returns-in_err-left-in-Bin : goal.node_value-returns-in_err-left-in-Bin
node_value-returns-in_err-left-in-Bin t c = IfOk-from_err c.from_residual.result _ c.from_residual.ensures.0

pub node_value-returns-in_err-second-in-Bin : goal.node_value-returns-in_err-second-in-Bin
node_value-returns-in_err-second-in-Bin t c = IfOk-from_err c.from_residual-in_err-second-in-Bin.result _ c.from_residual-in_err-second-in-Bin.ensures.0

pub node_value-returns-in_err-right-in-Bin : goal.node_value-returns-in_err-right-in-Bin
node_value-returns-in_err-right-in-Bin t c = IfOk-from_err c.from_residual-in_err-right-in-Bin.result _ c.from_residual-in_err-right-in-Bin.ensures.0

pub node_value-returns-in_err-test-in-Pick : goal.node_value-returns-in_err-test-in-Pick
node_value-returns-in_err-test-in-Pick t c = IfOk-from_err c.from_residual-in_err-test-in-Pick.result _ c.from_residual-in_err-test-in-Pick.ensures.0

pub node_value-returns-in_err-second-in-Pick : goal.node_value-returns-in_err-second-in-Pick
node_value-returns-in_err-second-in-Pick t c = IfOk-from_err c.from_residual-in_err-second-in-Pick.result _ c.from_residual-in_err-second-in-Pick.ensures.0

pub node_value-returns-in_err-one-in-Pick : goal.node_value-returns-in_err-one-in-Pick
node_value-returns-in_err-one-in-Pick t c = IfOk-from_err c.from_residual-in_err-one-in-Pick.result _ c.from_residual-in_err-one-in-Pick.ensures.0

pub node_value-returns-in_err-third-in-Pick : goal.node_value-returns-in_err-third-in-Pick
node_value-returns-in_err-third-in-Pick t c = IfOk-from_err c.from_residual-in_err-third-in-Pick.result _ c.from_residual-in_err-third-in-Pick.ensures.0

pub node_value-returns-in_err-two-in-Pick : goal.node_value-returns-in_err-two-in-Pick
node_value-returns-in_err-two-in-Pick t c = IfOk-from_err c.from_residual-in_err-two-in-Pick.result _ c.from_residual-in_err-two-in-Pick.ensures.0

pub node_value-returns-in_err-place-in-Index : goal.node_value-returns-in_err-place-in-Index
node_value-returns-in_err-place-in-Index t c = IfOk-from_err c.from_residual-in_err-place-in-Index.result _ c.from_residual-in_err-place-in-Index.ensures.0

pub node_value-returns-in_err-place-in-Dot : goal.node_value-returns-in_err-place-in-Dot
node_value-returns-in_err-place-in-Dot t c = IfOk-from_err c.from_residual-in_err-place-in-Dot.result _ c.from_residual-in_err-place-in-Dot.ensures.0

pub node_value-returns-in_err-count-in-Dot : goal.node_value-returns-in_err-count-in-Dot
node_value-returns-in_err-count-in-Dot t c = IfOk-from_err c.from_residual-in_err-count-in-Dot.result _ c.from_residual-in_err-count-in-Dot.ensures.0

pub node_value-returns-in_err-place-in-Arrow : goal.node_value-returns-in_err-place-in-Arrow
node_value-returns-in_err-place-in-Arrow t c = IfOk-from_err c.from_residual-in_err-place-in-Arrow.result _ c.from_residual-in_err-place-in-Arrow.ensures.0

pub node_value-returns-in_err-count-in-Arrow : goal.node_value-returns-in_err-count-in-Arrow
node_value-returns-in_err-count-in-Arrow t c = IfOk-from_err c.from_residual-in_err-count-in-Arrow.result _ c.from_residual-in_err-count-in-Arrow.ensures.0

pub node_value-returns-in_err-operand-in-Cast : goal.node_value-returns-in_err-operand-in-Cast
node_value-returns-in_err-operand-in-Cast t c = IfOk-from_err c.from_residual-in_err-operand-in-Cast.result _ c.from_residual-in_err-operand-in-Cast.ensures.0

pub node_value-returns-in_err-written-in-Cast : goal.node_value-returns-in_err-written-in-Cast
node_value-returns-in_err-written-in-Cast t c = IfOk-from_err c.from_residual-in_err-written-in-Cast.result _ c.from_residual-in_err-written-in-Cast.ensures.0

pub node_value-returns-in_err-written-in-Size : goal.node_value-returns-in_err-written-in-Size
node_value-returns-in_err-written-in-Size t c = IfOk-from_err c.from_residual-in_err-written-in-Size.result _ c.from_residual-in_err-written-in-Size.ensures.0

pub node_value-returns-in_err-written-in-Trusted : goal.node_value-returns-in_err-written-in-Trusted
node_value-returns-in_err-written-in-Trusted t c = IfOk-from_err c.from_residual-in_err-written-in-Trusted.result _ c.from_residual-in_err-written-in-Trusted.ensures.0

pub node_value-returns-in_err-pointer-in-Trusted : goal.node_value-returns-in_err-pointer-in-Trusted
node_value-returns-in_err-pointer-in-Trusted t c = IfOk-from_err c.from_residual-in_err-pointer-in-Trusted.result _ c.from_residual-in_err-pointer-in-Trusted.ensures.0

pub node_value-returns-in_err-second-in-Trusted : goal.node_value-returns-in_err-second-in-Trusted
node_value-returns-in_err-second-in-Trusted t c = IfOk-from_err c.from_residual-in_err-second-in-Trusted.result _ c.from_residual-in_err-second-in-Trusted.ensures.0

pub node_value-returns-in_err-count-in-Trusted : goal.node_value-returns-in_err-count-in-Trusted
node_value-returns-in_err-count-in-Trusted t c = IfOk-from_err c.from_residual-in_err-count-in-Trusted.result _ c.from_residual-in_err-count-in-Trusted.ensures.0

pub node_value-returns-in_err-written-in-Tested : goal.node_value-returns-in_err-written-in-Tested
node_value-returns-in_err-written-in-Tested t c = IfOk-from_err c.from_residual-in_err-written-in-Tested.result _ c.from_residual-in_err-written-in-Tested.ensures.0

pub node_value-returns-in_err-pointer-in-Tested : goal.node_value-returns-in_err-pointer-in-Tested
node_value-returns-in_err-pointer-in-Tested t c = IfOk-from_err c.from_residual-in_err-pointer-in-Tested.result _ c.from_residual-in_err-pointer-in-Tested.ensures.0

pub node_value-returns-in_err-second-in-Tested : goal.node_value-returns-in_err-second-in-Tested
node_value-returns-in_err-second-in-Tested t c = IfOk-from_err c.from_residual-in_err-second-in-Tested.result _ c.from_residual-in_err-second-in-Tested.ensures.0

pub node_value-returns-in_err-count-in-Tested : goal.node_value-returns-in_err-count-in-Tested
node_value-returns-in_err-count-in-Tested t c = IfOk-from_err c.from_residual-in_err-count-in-Tested.result _ c.from_residual-in_err-count-in-Tested.ensures.0

pub value-returns-in_err-made : goal.value-returns-in_err-made
value-returns-in_err-made t c = IfOk-from_err c.from_residual.result _ c.from_residual.ensures.0

pub node_value-returns-in_ok-right-in-Bin : goal.node_value-returns-in_ok-right-in-Bin
node_value-returns-in_ok-right-in-Bin t c =
    binary_value c.args.typed.now c.args.locals.now c.args.first c.args.node.now c.args.note.now c.args.at c.layout.result.now c.in-Bin.e c.get-in-Bin.result.now c.get-in-Bin-2.result.now c.get-in-Bin-4.result.now c.in-Bin.f c.get-in-Bin-3.result.now c.get-in-Bin-5.result.now (expr_of c.in_ok-left-in-Bin.left) (expr_of c.in_ok-right-in-Bin.right) c.in_ok-second-in-Bin.second c.of_operands.result c.layout.ensures c.get-in-Bin.ensures c.get-in-Bin-2.ensures c.get-in-Bin-4.ensures c.get-in-Bin-3.ensures c.get-in-Bin-5.ensures c.in_ok-left-in-Bin.ensures c.in_ok-second-in-Bin.ensures c.in_ok-right-in-Bin.ensures c.in-Bin.op c.in-Bin.is c.of_operands.ensures

pub node_address-returns-in_ok-right-in-Index : goal.node_address-returns-in_ok-right-in-Index
node_address-returns-in_ok-right-in-Index t c =
    index_address c.args.typed.now c.args.locals.now c.args.first c.args.node.now c.args.note.now c.args.at c.layout.result.now c.in-Index.e c.get-in-Index.result.now c.get-in-Index-2.result.now c.get-in-Index-4.result.now c.in-Index.f c.get-in-Index-3.result.now c.get-in-Index-5.result.now (expr_of c.in_ok-left-in-Index.left) (expr_of c.in_ok-right-in-Index.right) c.in_ok-second-in-Index.second c.of_operands.result c.layout.ensures c.get-in-Index.ensures c.get-in-Index-2.ensures c.get-in-Index-4.ensures c.get-in-Index-3.ensures c.get-in-Index-5.ensures c.in_ok-left-in-Index.ensures c.in_ok-second-in-Index.ensures c.in_ok-right-in-Index.ensures c.in-Index.is c.of_operands.ensures

pub node_value-returns-in-Un : goal.node_value-returns-in-Un
node_value-returns-in-Un t c =
    rw (node_part c.args.node.now (Node-F.Un c.in-Un.op c.in-Un.e) (c.in-Un.is ∙ sym (node.rolls-Un c.in-Un.op c.in-Un.e)), ← c.get-in-Un.ensures) c.unary_value.ensures

pub target-returns : goal.target-returns
target-returns t c =
    rw (← c.in_ok-pointer.ensures, ← c.layout.ensures) c.target_place.ensures

pub unary_value-returns-in-Address : goal.unary_value-returns-in-Address
unary_value-returns-in-Address t c =
    rw (c.in-Address.is, expr_part c.args.e.now) c.node_address.ensures

pub unary_value-returns-in_ok-place-in-Deref : goal.unary_value-returns-in_ok-place-in-Deref
unary_value-returns-in_ok-place-in-Deref t c =
    rw (c.in-Deref.is, ctype_part c.args.e.now, ← c.in_ok-place-in-Deref.ensures, ← c.count_by_kind.ensures, ← c.layout.ensures) c.read_at.ensures

pub node_value-returns-in-Name : goal.node_value-returns-in-Name
node_value-returns-in-Name t c =
    rw (node_part c.args.node.now (Node-F.Name c.in-Name.n) (c.in-Name.is ∙ sym (node.rolls-Name c.in-Name.n))) c.named.ensures

pub node_place-returns-in-Name : goal.node_place-returns-in-Name
node_place-returns-in-Name t c =
    rw (node_part c.args.node.now (Node-F.Name c.in-Name.n) (c.in-Name.is ∙ sym (node.rolls-Name c.in-Name.n)), ← c.get.ensures) c.name_place.ensures

pub node_value-returns-in_ok-written-in-Cast : goal.node_value-returns-in_ok-written-in-Cast
node_value-returns-in_ok-written-in-Cast t c =
    rw (node_part c.args.node.now (Node-F.Cast c.in-Cast.w c.in-Cast.e) (c.in-Cast.is ∙ sym (node.rolls-Cast c.in-Cast.w c.in-Cast.e)), ctype_part c.in-Cast.e, ← c.in_ok-written-in-Cast.ensures, ← c.get-in-Cast.ensures, ← c.in_ok-operand-in-Cast.ensures, c.get-in-Cast.ensures, ← c.get-in-Cast-2.ensures) c.cast.ensures

pub node_value-returns-in_ok-two-in-Pick : goal.node_value-returns-in_ok-two-in-Pick
node_value-returns-in_ok-two-in-Pick t c =
    pick_value c.args.typed.now c.args.locals.now c.args.first c.args.node.now c.args.note.now c.args.at c.in-Pick.e c.get-in-Pick.result.now c.get-in-Pick-2.result.now c.in-Pick.f c.get-in-Pick-3.result.now c.get-in-Pick-4.result.now c.in-Pick.g c.get-in-Pick-5.result.now c.in_ok-test-in-Pick.test c.in_ok-one-in-Pick.one c.in_ok-two-in-Pick.two c.in_ok-second-in-Pick.second c.in_ok-third-in-Pick.third c.in-Pick.is c.get-in-Pick.ensures c.get-in-Pick-2.ensures c.get-in-Pick-3.ensures c.get-in-Pick-4.ensures c.get-in-Pick-5.ensures c.in_ok-test-in-Pick.ensures c.in_ok-second-in-Pick.ensures c.in_ok-one-in-Pick.ensures c.in_ok-third-in-Pick.ensures c.in_ok-two-in-Pick.ensures
