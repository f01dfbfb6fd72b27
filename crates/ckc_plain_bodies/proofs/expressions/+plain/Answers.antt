use Rattle.std.proofs.Common.{sym, ap, ◌∙◌}
use Rattle.ckc_syntax.specs.declared.tree.Node.TheVariants as node
use Rattle.ckc_syntax.specs.declared.tree.Limits.TheVariants as limits
use Rattle.ckc_plain_barred.specs.Forms.{stays}
use Rattle.ckc_plain_bodies.specs.Taken.{expr_at}
use Rattle.ckc_plain_bodies.specs.Expressions.{exprs_plain}
use Rattle.ckc_plain_bodies.specs.code.Parts.{second_by}
use Rattle.ckc_plain_bodies.proofs.KeptNodes.{number_kept, text_kept, null_kept, name_kept, unary_kept, pick_kept, index_kept, dot_kept, arrow_kept, cast_kept, size_kept, trusted_kept, tested_kept, call_kept, calloc_kept, count_plain, byte_count_plain, between_plain, unknown_plain}
use Rattle.ckc_plain_bodies.proofs.KeptArms.{done, arguments, one_part, two_parts, three_parts, part_and_bounds, two_done, set_done, other_done, choose_done}
use Rattle.ckc_plain_bodies.proofs.PlainArms.{set_plain, step_plain, call_plain, other_plain, bounds_made}
use Rattle.ckc_plain_bodies.proofs.Stays.{steps_along, steps_of, unary_stays, binary_stays, right_then, right_else}
use Rattle.ckc_plain_bodies.proofs.Turns.{begin, turn_done, turn_end}
use Rattle.ckc_plain_bodies.proofs.expressions.+plain.Goals as goal

pub kept-returns-in-Number : goal.kept-returns-in-Number
kept-returns-in-Number t c =
    done _ _ _ _ (number_kept c.args.known.now c.args.e.now c.args.pending.now c.in-Number.n c.in-Number.unsigned c.in-Number.is) c.expr_at.ensures

pub kept-returns-in-Text : goal.kept-returns-in-Text
kept-returns-in-Text t c =
    steps_of c.text_at.result _ _ _ c.text_at.ensures (text_kept c.args.known.now c.args.e.now c.args.pending.now c.in-Text.bytes c.in-Text.is)

pub kept-returns-in-Null : goal.kept-returns-in-Null
kept-returns-in-Null t c =
    done _ _ _ _ (null_kept c.args.known.now c.args.e.now c.args.pending.now c.in-Null.is) c.expr_at-in-Null.ensures

pub kept-returns-in-Name : goal.kept-returns-in-Name
kept-returns-in-Name t c =
    done _ _ _ _ (name_kept c.args.known.now c.args.e.now c.args.pending.now c.in-Name.n c.in-Name.is) c.expr_at-in-Name.ensures

pub kept-returns-in-Size : goal.kept-returns-in-Size
kept-returns-in-Size t c =
    steps_of c.size_at.result _ _ _ c.size_at.ensures (size_kept c.args.known.now c.args.e.now c.args.pending.now c.in-Size.t c.in-Size.is)

pub kept-returns-in_ok-x-in-Un : goal.kept-returns-in_ok-x-in-Un
kept-returns-in_ok-x-in-Un t c =
    done _ _ _ _ (one_part c.args.known.now c.args.pending.now _ c.in-Un.x c.get.result.now c.in_ok-x-in-Un.x _ (λ a. expr_at (node.Un c.in-Un.op a) c.args.e.now.pos)
    (unary_kept c.args.known.now c.args.e.now c.args.pending.now c.in-Un.op c.in-Un.x c.in-Un.is) c.get.ensures c.in_ok-x-in-Un.ensures) c.expr_at-in-Un.ensures

pub kept-returns-in_ok-x-in-Dot : goal.kept-returns-in_ok-x-in-Dot
kept-returns-in_ok-x-in-Dot t c =
    done _ _ _ _ (one_part c.args.known.now c.args.pending.now _ c.in-Dot.x c.get-in-Dot.result.now c.in_ok-x-in-Dot.x _ (λ a. expr_at (node.Dot a c.in-Dot.n c.in-Dot.at) c.args.e.now.pos)
    (dot_kept c.args.known.now c.args.e.now c.args.pending.now c.in-Dot.x c.in-Dot.n c.in-Dot.at c.in-Dot.is) c.get-in-Dot.ensures c.in_ok-x-in-Dot.ensures) c.expr_at-in-Dot.ensures

pub kept-returns-in_ok-x-in-Arrow : goal.kept-returns-in_ok-x-in-Arrow
kept-returns-in_ok-x-in-Arrow t c =
    done _ _ _ _ (one_part c.args.known.now c.args.pending.now _ c.in-Arrow.x c.get-in-Arrow.result.now c.in_ok-x-in-Arrow.x _ (λ a. expr_at (node.Arrow a c.in-Arrow.n c.in-Arrow.at) c.args.e.now.pos)
    (arrow_kept c.args.known.now c.args.e.now c.args.pending.now c.in-Arrow.x c.in-Arrow.n c.in-Arrow.at c.in-Arrow.is) c.get-in-Arrow.ensures c.in_ok-x-in-Arrow.ensures) c.expr_at-in-Arrow.ensures

pub kept-returns-in_ok-x-in-Cast : goal.kept-returns-in_ok-x-in-Cast
kept-returns-in_ok-x-in-Cast t c =
    steps_of c.cast_at.result _ _ _ c.cast_at.ensures (one_part c.args.known.now c.args.pending.now _ c.in-Cast.x c.get-in-Cast.result.now c.in_ok-x-in-Cast.x _ (λ a. expr_at (node.Cast c.in-Cast.t a) c.args.e.now.pos)
    (cast_kept c.args.known.now c.args.e.now c.args.pending.now c.in-Cast.t c.in-Cast.x c.in-Cast.is) c.get-in-Cast.ensures c.in_ok-x-in-Cast.ensures)

pub kept-returns-in_ok-x-in-Calloc : goal.kept-returns-in_ok-x-in-Calloc
kept-returns-in_ok-x-in-Calloc t c =
    steps_of c.calloc_at.result _ _ _ c.calloc_at.ensures (one_part c.args.known.now c.args.pending.now _ c.in-Calloc.x c.get-in-Calloc.result.now c.in_ok-x-in-Calloc.x _ (λ a. expr_at (node.Calloc c.in-Calloc.t a c.in-Calloc.u) c.args.e.now.pos)
    (calloc_kept c.args.known.now c.args.e.now c.args.pending.now c.in-Calloc.t c.in-Calloc.x c.in-Calloc.u c.in-Calloc.is) c.get-in-Calloc.ensures c.in_ok-x-in-Calloc.ensures)

pub kept-returns-in_ok-args-in-Call : goal.kept-returns-in_ok-args-in-Call
kept-returns-in_ok-args-in-Call t c =
    done _ _ _ _ (arguments c.args.known.now c.args.pending.now _ c.in-Call.es c.as_slice.result.now c.in_ok-args-in-Call.args _ (λ es. expr_at (node.Call c.in-Call.n es) c.args.e.now.pos)
    (call_kept c.args.known.now c.args.e.now c.args.pending.now c.in-Call.n c.in-Call.es c.in-Call.is) c.as_slice.ensures c.in_ok-args-in-Call.ensures) c.expr_at-in-Call.ensures

pub kept-returns-in_ok-a-in-Bin : goal.kept-returns-in_ok-a-in-Bin
kept-returns-in_ok-a-in-Bin t c =
    steps_along c.second_expr.result c.second_expr.new.pending _ _
    (two_done c.args.known.now c.args.e.now c.args.pending.now c.work_of.result c.in-Bin.op c.in-Bin.x c.get-in-Bin.result.now c.in_ok-a-in-Bin.a c.plain_expr.new.pending c.in-Bin.f c.get-in-Bin-2.result.now
    c.in-Bin.is c.get-in-Bin.ensures c.get-in-Bin-2.ensures c.work_of.ensures c.in_ok-a-in-Bin.ensures)
    c.second_expr.ensures

pub kept-returns-in_ok-g-in-Pick : goal.kept-returns-in_ok-g-in-Pick
kept-returns-in_ok-g-in-Pick t c =
    done _ _ _ _ (three_parts c.args.known.now c.args.pending.now _ c.in-Pick.x c.get-in-Pick.result.now c.in_ok-x-in-Pick.x _ c.in-Pick.f c.get-in-Pick-2.result.now c.in_ok-f-in-Pick.f _ c.in-Pick.g c.get-in-Pick-3.result.now c.in_ok-g-in-Pick.g _
    (λ x f g. expr_at (node.Pick x f g) c.args.e.now.pos) (pick_kept c.args.known.now c.args.e.now c.args.pending.now c.in-Pick.x c.in-Pick.f c.in-Pick.g c.in-Pick.is)
    c.get-in-Pick.ensures c.in_ok-x-in-Pick.ensures c.get-in-Pick-2.ensures c.in_ok-f-in-Pick.ensures c.get-in-Pick-3.ensures c.in_ok-g-in-Pick.ensures) c.expr_at-in-Pick.ensures

pub kept-returns-in_ok-f-in-Index : goal.kept-returns-in_ok-f-in-Index
kept-returns-in_ok-f-in-Index t c =
    done _ _ _ _ (two_parts c.args.known.now c.args.pending.now _ c.in-Index.x c.get-in-Index.result.now c.in_ok-x-in-Index.x _ c.in-Index.f c.get-in-Index-2.result.now c.in_ok-f-in-Index.f _
    (λ x f. expr_at (node.Index x f) c.args.e.now.pos) (index_kept c.args.known.now c.args.e.now c.args.pending.now c.in-Index.x c.in-Index.f c.in-Index.is)
    c.get-in-Index.ensures c.in_ok-x-in-Index.ensures c.get-in-Index-2.ensures c.in_ok-f-in-Index.ensures) c.expr_at-in-Index.ensures

pub kept-returns-in_ok-limits-in-Trusted : goal.kept-returns-in_ok-limits-in-Trusted
kept-returns-in_ok-limits-in-Trusted t c =
    steps_of c.bounded_at.result _ _ _ c.bounded_at.ensures
    (part_and_bounds c.args.known.now c.args.pending.now _ c.in-Trusted.x c.get-in-Trusted.result.now c.in_ok-x-in-Trusted.x _ c.in-Trusted.limits c.in_ok-limits-in-Trusted.limits _
    (λ x k. expr_at (node.Trusted c.in-Trusted.t x k) c.args.e.now.pos) (trusted_kept c.args.known.now c.args.e.now c.args.pending.now c.in-Trusted.t c.in-Trusted.x c.in-Trusted.limits c.in-Trusted.is)
    c.get-in-Trusted.ensures c.in_ok-x-in-Trusted.ensures c.in_ok-limits-in-Trusted.ensures)

pub kept-returns-in_ok-limits-in-Tested : goal.kept-returns-in_ok-limits-in-Tested
kept-returns-in_ok-limits-in-Tested t c =
    steps_of c.bounded_at-in-Tested.result _ _ _ c.bounded_at-in-Tested.ensures
    (part_and_bounds c.args.known.now c.args.pending.now _ c.in-Tested.x c.get-in-Tested.result.now c.in_ok-x-in-Tested.x _ c.in-Tested.limits c.in_ok-limits-in-Tested.limits _
    (λ x k. expr_at (node.Tested c.in-Tested.t x k) c.args.e.now.pos) (tested_kept c.args.known.now c.args.e.now c.args.pending.now c.in-Tested.t c.in-Tested.x c.in-Tested.limits c.in-Tested.is)
    c.get-in-Tested.ensures c.in_ok-x-in-Tested.ensures c.in_ok-limits-in-Tested.ensures)

pub second_expr-returns-in_ok-b-in-Sets : goal.second_expr-returns-in_ok-b-in-Sets
second_expr-returns-in_ok-b-in-Sets t c =
    steps_of c.binary_at.result _ _ _ c.binary_at.ensures
    (set_done c.args.known.now c.args.work c.args.op c.args.a c.args.e.now c.args.pos c.args.pending.now c.form_of.result c.in_ok-b-in-Sets.b _
    c.in-Sets.is c.form_of.ensures c.in_ok-b-in-Sets.ensures)

pub second_expr-returns-in-IfTrue : goal.second_expr-returns-in-IfTrue
second_expr-returns-in-IfTrue t c =
    steps_along c.choice_expr.result c.choice_expr.new.pending _ _
    (ap (λ w. second_by c.args.known.now w c.args.op c.args.a c.args.e.now c.args.pos c.args.pending.now) (sym c.in-IfTrue.is))
    c.choice_expr.ensures

pub second_expr-returns-in-IfFalse : goal.second_expr-returns-in-IfFalse
second_expr-returns-in-IfFalse t c =
    steps_along c.choice_expr-in-IfFalse.result c.choice_expr-in-IfFalse.new.pending _ _
    (ap (λ w. second_by c.args.known.now w c.args.op c.args.a c.args.e.now c.args.pos c.args.pending.now) (sym c.in-IfFalse.is))
    c.choice_expr-in-IfFalse.ensures

pub second_expr-returns-in_ok-b-in_default : goal.second_expr-returns-in_ok-b-in_default
second_expr-returns-in_ok-b-in_default t c =
    steps_of c.binary_at-in_default.result _ _ _ c.binary_at-in_default.ensures
    (other_done c.args.known.now c.args.work c.args.op c.args.a c.args.e.now c.args.pos c.args.pending.now c.in_ok-b-in_default.b _
    c.in_default.not-Sets c.in_default.not-IfTrue c.in_default.not-IfFalse c.in_ok-b-in_default.ensures)

pub choice_expr-returns : goal.choice_expr-returns
choice_expr-returns t c =
    steps_along c.choice.result c.choice.new.pending _ _
    (choose_done c.args.known.now c.args.op c.args.all c.args.a c.args.e.now c.args.pos c.args.pending.now c.in_ok-number_after.field-0 c.none-inner.result c.in_ok-b.b _
    c.in_ok-number_after.ensures c.none-inner.ensures c.in_ok-b.ensures)
    c.choice.ensures

pub plain_expr-returns-in_default-work_of : goal.plain_expr-returns-in_default-work_of
plain_expr-returns-in_default-work_of t c =
    steps_along c.kept.result c.kept.new.pending _ _
    (sym (binary_stays c.args.known.now c.args.e.now c.args.pending.now c.in-Bin.op c.in-Bin.x c.in-Bin.f c.in-Bin.is (λ h. c.in_default-work_of.not-Sets (c.work_of.ensures ∙ h))))
    c.kept.ensures

pub right_expr-returns : goal.right_expr-returns
right_expr-returns t c =
    steps_along c.plain_expr.result c.plain_expr.new.pending _ _
    (right_else c.args.known.now c.args.target c.args.e.now c.args.pending.now
    (sym (ap (λ f. stays c.args.target f) c.form_of.ensures) ∙ sym c.stays.ensures ∙ c.if-stays.false))
    c.plain_expr.ensures

pub plain_expr-returns-in_ok-b-in-Sets : goal.plain_expr-returns-in_ok-b-in-Sets
plain_expr-returns-in_ok-b-in-Sets t c =
    steps_along c.set_taken.result c.set_taken.new.pending _ _
    (set_plain c.args.known.now c.args.e.now c.args.pending.now c.in-Bin.op c.in_ok-a-in-Sets.a c.in_ok-b-in-Sets.b c.right_expr.new.pending (sym c.work_of.ensures ∙ c.in-Sets.is)
    (sym (two_done c.args.known.now c.args.e.now c.args.pending.now c.work_of.result c.in-Bin.op c.in-Bin.x c.get.result.now c.in_ok-a-in-Sets.a c.plain_expr.new.pending c.in-Bin.f c.get-in-Sets.result.now
    c.in-Bin.is c.get.ensures c.get-in-Sets.ensures c.work_of.ensures c.in_ok-a-in-Sets.ensures)
    ∙ set_done c.args.known.now c.work_of.result c.in-Bin.op c.in_ok-a-in-Sets.a c.get-in-Sets.result.now c.args.e.now.pos c.plain_expr.new.pending c.form_of.result c.in_ok-b-in-Sets.b c.right_expr.new.pending
    c.in-Sets.is c.form_of.ensures c.in_ok-b-in-Sets.ensures))
    c.set_taken.ensures

pub plain_expr-returns-in_ok-a-in-Steps : goal.plain_expr-returns-in_ok-a-in-Steps
plain_expr-returns-in_ok-a-in-Steps t c =
    steps_along c.step_taken.result c.step_taken.new.pending _ _
    (step_plain c.args.known.now c.args.e.now c.args.pending.now c.in-Un.op c.in-Steps.by c.in_ok-a-in-Steps.a c.plain_expr-in-Steps.new.pending (sym c.work_of-in-Un.ensures ∙ c.in-Steps.is)
    (one_part c.args.known.now c.args.pending.now _ c.in-Un.x c.get-in-Steps.result.now c.in_ok-a-in-Steps.a _ (λ a. expr_at (node.Un c.in-Un.op a) c.args.e.now.pos)
    (unary_kept c.args.known.now c.args.e.now c.args.pending.now c.in-Un.op c.in-Un.x c.in-Un.is) c.get-in-Steps.ensures c.in_ok-a-in-Steps.ensures))
    c.step_taken.ensures

pub plain_expr-returns-in_default-work_of-2 : goal.plain_expr-returns-in_default-work_of-2
plain_expr-returns-in_default-work_of-2 t c =
    steps_along c.kept-in_default-work_of-2.result c.kept-in_default-work_of-2.new.pending _ _
    (sym (unary_stays c.args.known.now c.args.e.now c.args.pending.now c.in-Un.op c.in-Un.x c.in-Un.is (λ by h. c.in_default-work_of-2.not-Steps by (c.work_of-in-Un.ensures ∙ h))))
    c.kept-in_default-work_of-2.ensures

pub plain_expr-returns-in_ok-call-in-Call : goal.plain_expr-returns-in_ok-call-in-Call
plain_expr-returns-in_ok-call-in-Call t c =
    steps_along c.call_taken.result c.call_taken.new.pending _ _
    (call_plain c.args.known.now c.args.e.now c.args.pending.now c.in-Call.n c.in-Call.field-1 c.result_of.result c.in_ok-call-in-Call.call c.kept-in-Call.new.pending c.in-Call.is c.result_of.ensures c.in_ok-call-in-Call.ensures)
    c.call_taken.ensures

pub plain_expr-returns-in_default : goal.plain_expr-returns-in_default
plain_expr-returns-in_default t c =
    steps_along c.kept-in_default.result c.kept-in_default.new.pending _ _
    (sym (other_plain c.args.known.now c.args.e.now c.args.pending.now c.in_default.not-Un c.in_default.not-Bin c.in_default.not-Call))
    c.kept-in_default.ensures

pub right_expr-returns-then-stays : goal.right_expr-returns-then-stays
right_expr-returns-then-stays t c =
    steps_along c.kept.result c.kept.new.pending _ _
    (right_then c.args.known.now c.args.target c.args.e.now c.args.pending.now (sym (ap (λ f. stays c.args.target f) c.form_of.ensures) ∙ sym c.stays.ensures ∙ c.if-stays.true))
    c.kept.ensures

pub boxed_expr-returns : goal.boxed_expr-returns
boxed_expr-returns t c =
    steps_of c.in_box.result _ _ _ c.in_box.ensures c.in_ok-made.ensures

pub plain_bounds-returns-in_ok-boxed-in-Some : goal.plain_bounds-returns-in_ok-boxed-in-Some
plain_bounds-returns-in_ok-boxed-in-Some t c =
    bounds_made c.args.known.now c.args.bounds.now c.args.pending.now c.in-Some.limits c.get.result.now c.in_ok-made-in-Some.made c.in_ok-boxed-in-Some.boxed c.plain_limits.new.pending
    c.in-Some.is c.get.ensures c.in_ok-made-in-Some.ensures c.in_ok-boxed-in-Some.ensures

pub plain_exprs-returns : goal.plain_exprs-returns
plain_exprs-returns t c =
    turn_end c.args.known.now c.args.es.now c.loop-e.e-index c.loop-e.pending _ c.loop-e.all c.loop-e.invariant c.loop-e-test.false

pub plain_exprs-loop-e-init : goal.plain_exprs-loop-e-init
plain_exprs-loop-e-init t c =
    begin (exprs_plain c.args.known.now c.args.es.now c.args.pending.now) c.no_exprs-all.result c.no_exprs-all.ensures

pub plain_exprs-loop-e-preserved : goal.plain_exprs-loop-e-preserved
plain_exprs-loop-e-preserved t c =
    turn_done c.args.known.now c.args.es.now c.loop-e.e-index c.loop-e.pending _ c.loop-e.all c.loop-e.invariant c.e-item.result c.in_ok-made.made c.plain_expr.new.pending c.add_expr.new.all
    c.loop-e-test.true c.e-item.is c.in_ok-made.ensures c.in_ok-add_expr.ensures

pub plain_limits-returns-in_ok-e-in-Count : goal.plain_limits-returns-in_ok-e-in-Count
plain_limits-returns-in_ok-e-in-Count t c =
    one_part c.args.known.now c.args.pending.now _ c.in-Count.e c.get.result.now c.in_ok-e-in-Count.e _ (λ a. limits.Count a c.in-Count.pos)
    (count_plain c.args.known.now c.args.limits.now c.args.pending.now c.in-Count.e c.in-Count.pos c.in-Count.is) c.get.ensures c.in_ok-e-in-Count.ensures

pub plain_limits-returns-in_ok-e-in-ByteCount : goal.plain_limits-returns-in_ok-e-in-ByteCount
plain_limits-returns-in_ok-e-in-ByteCount t c =
    one_part c.args.known.now c.args.pending.now _ c.in-ByteCount.e c.get-in-ByteCount.result.now c.in_ok-e-in-ByteCount.e _ (λ a. limits.ByteCount a c.in-ByteCount.pos)
    (byte_count_plain c.args.known.now c.args.limits.now c.args.pending.now c.in-ByteCount.e c.in-ByteCount.pos c.in-ByteCount.is) c.get-in-ByteCount.ensures c.in_ok-e-in-ByteCount.ensures

pub plain_limits-returns-in_ok-f-in-Between : goal.plain_limits-returns-in_ok-f-in-Between
plain_limits-returns-in_ok-f-in-Between t c =
    two_parts c.args.known.now c.args.pending.now _ c.in-Between.e c.get-in-Between.result.now c.in_ok-e-in-Between.e _ c.in-Between.f c.get-in-Between-2.result.now c.in_ok-f-in-Between.f _ (λ a b. limits.Between a b c.in-Between.pos)
    (between_plain c.args.known.now c.args.limits.now c.args.pending.now c.in-Between.e c.in-Between.f c.in-Between.pos c.in-Between.is) c.get-in-Between.ensures c.in_ok-e-in-Between.ensures c.get-in-Between-2.ensures c.in_ok-f-in-Between.ensures

pub plain_limits-returns-in-Unknown : goal.plain_limits-returns-in-Unknown
plain_limits-returns-in-Unknown t c =
    unknown_plain c.args.known.now c.args.limits.now c.args.pending.now c.in-Unknown.pos c.in-Unknown.is
