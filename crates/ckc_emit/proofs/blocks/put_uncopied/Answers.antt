use Rattle.std.proofs.Common.{◌≡◌, ◌∙◌, true, false, length, drop, sym, ap, arith}
use Rattle.std.proofs.lemmas.List.{take_rest}
use Rattle.ckc_emit.specs.code.ProgramLines.{are_near}
use Rattle.ckc_emit.proofs.FunctionEmitted.{near_added, far_added}
use Rattle.ckc_emit.proofs.blocks.put_uncopied.Goals as goal

pub returns-in_ok-put_body-2 : goal.returns-in_ok-put_body-2
returns-in_ok-put_body-2 c =
    let old = c.args.out.now.items in
    let n = c.len-start.result in
    let read = c.deref.result.now in
    let count : n ≡ length old = omega (arith, c.len-start.ensures, c.args.out.now.ok.0) in
    let long : are_near (drop n read) ≡ false = ap are_near (sym (take_rest read n)) ∙ sym c.is_below.ensures ∙ c.if-not-is_below.true in
    far_added c.args.p.now.funcs c.args.f.now c.args.label old c.put_body.new.out.items read c.truncate.new.self.items c.put_body-then-not-is_below.new.out.items n count
    c.deref.ensures.value c.in_ok-put_body.ensures long c.truncate.ensures.items c.in_ok-put_body-2.ensures

pub returns-else-not-is_below : goal.returns-else-not-is_below
returns-else-not-is_below c =
    let old = c.args.out.now.items in
    let n = c.len-start.result in
    let read = c.deref.result.now in
    let count : n ≡ length old = omega (arith, c.len-start.ensures, c.args.out.now.ok.0) in
    let short : are_near (drop n read) ≡ true = ap are_near (sym (take_rest read n)) ∙ sym c.is_below.ensures ∙ c.if-not-is_below.false in
    near_added c.args.p.now.funcs c.args.f.now c.args.label old c.put_body.new.out.items read n count c.deref.ensures.value c.in_ok-put_body.ensures short
