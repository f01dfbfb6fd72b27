use Rattle.std.proofs.Common.{◌≡◌, ◌||◌, true}
use Rattle.std.proofs.lemmas.Bool.{or_cases, or_left, or_right}
use Rattle.ckc_flow.specs.Live.{is_register}
use Rattle.ckc_assign.proofs.Growing.{sees_then}
use Rattle.ckc_assign.proofs.ranges.see_two.Goals as goal

pub returns : goal.returns
returns c =
    let a = c.args.a in
    let b = c.args.b in
    sees_then c.args.place (λ r. is_register r a ≡ true) (λ r. is_register r b ≡ true) (λ r. (is_register r a || is_register r b) ≡ true)
    c.args.ranges.now c.see_operand.new.ranges c.see_operand-2.new.ranges c.see_operand.ensures c.see_operand-2.ensures
    (λ r e. or_cases (is_register r a) (is_register r b) e) (λ r e. or_left (is_register r a) (is_register r b) e)
    (λ r e. or_right (is_register r a) (is_register r b) e)
