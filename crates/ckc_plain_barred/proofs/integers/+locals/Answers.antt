use Rattle.std.proofs.Common.{refl, sym, ap, ◌∙◌, ◌++◌, map}
use Rattle.ckc_plain_barred.specs.Integers.{declared_integer, locals_of_stmt}
use Rattle.ckc_plain_barred.specs.code.Locals.{locals_of_part, locals_of_each}
use Rattle.ckc_plain_barred.proofs.Locals.{along, two, block_locals, bundle_locals, if_locals, for_locals}
use Rattle.ckc_plain_barred.proofs.integers.+locals.Goals as goal

pub add_locals-returns-in-Block : goal.add_locals-returns-in-Block
add_locals-returns-in-Block t c =
    along c.add_each.result _ _ _
    (ap (λ ds. c.args.all.now ++ map declared_integer ds) (ap locals_of_each c.as_slice.ensures ∙ sym (block_locals c.args.s.now c.in-Block.field-0 c.in-Block.ss c.in-Block.is)))
    c.add_each.ensures

pub add_locals-returns-in-Bundle : goal.add_locals-returns-in-Bundle
add_locals-returns-in-Bundle t c =
    along c.add_each-in-Bundle.result _ _ _
    (ap (λ ds. c.args.all.now ++ map declared_integer ds) (ap locals_of_each c.as_slice-in-Bundle.ensures ∙ sym (bundle_locals c.args.s.now c.in-Bundle.ss c.in-Bundle.is)))
    c.add_each-in-Bundle.ensures

pub add_locals-returns-in_ok-add_locals-in-If : goal.add_locals-returns-in_ok-add_locals-in-If
add_locals-returns-in_ok-add_locals-in-If t c =
    along c.add_part.result _ _ _
    (two c.args.all.now c.add_locals.new.all (locals_of_stmt c.get-in-If.result.now) (locals_of_part c.in-If.t) c.in_ok-add_locals-in-If.ensures
    ∙ ap (λ ds. c.args.all.now ++ map declared_integer ds) (ap (λ u. locals_of_stmt u ++ locals_of_part c.in-If.t) c.get-in-If.ensures ∙ sym (if_locals c.args.s.now c.in-If.field-0 c.in-If.s c.in-If.t c.in-If.is)))
    c.add_part.ensures

pub add_locals-returns-in_ok-add_locals-in-For : goal.add_locals-returns-in_ok-add_locals-in-For
add_locals-returns-in_ok-add_locals-in-For t c =
    let body = locals_of_stmt c.get-in-For.result.now in
    let step = locals_of_part c.in-For.step in
    along c.add_part-in-For-2.result _ _ _
    (two c.add_part-in-For.new.all c.add_locals-in-For.new.all body step c.in_ok-add_locals-in-For.ensures
    ∙ two c.args.all.now c.add_part-in-For.new.all (locals_of_part c.in-For.first) (body ++ step) c.in_ok-add_part-in-For.ensures
    ∙ ap (λ ds. c.args.all.now ++ map declared_integer ds) (ap (λ u. locals_of_part c.in-For.first ++ (locals_of_stmt u ++ step)) c.get-in-For.ensures ∙ sym (for_locals c.args.s.now c.in-For.first c.in-For.field-1 c.in-For.step c.in-For.body c.in-For.is)))
    c.add_part-in-For-2.ensures
