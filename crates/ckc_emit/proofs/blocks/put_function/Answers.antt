use Rattle.std.proofs.Common.{◌≡◌, ◌∙◌, nat_lt, true, false, length, drop, sym, ap, arith}
use Rattle.std.specs.Prelude.{sum_by}
use Rattle.std.proofs.lemmas.List.{take_rest}
use Rattle.ckc_asm_lines.specs.Assembled.{size_of}
use Rattle.ckc_emit.specs.code.ProgramLines.{room_from}
use Rattle.ckc_emit.proofs.FunctionEmitted.{turned_emitted, uncopied_emitted}
use Rattle.ckc_emit.proofs.blocks.put_function.Goals as goal

pub returns-in_ok-put_uncopied : goal.returns-in_ok-put_uncopied
returns-in_ok-put_uncopied c =
    let old = c.args.out.now.items in
    let n = c.len-start.result in
    let read = c.deref.result.now in
    let count : n ≡ length old = omega (arith, c.len-start.ensures, c.args.out.now.ok.0) in
    let long : nat_lt (sum_by size_of (drop n read)) (room_from 0 c.args.f.now.code.blocks) ≡ false =
    ap (λ k. nat_lt (sum_by size_of (drop n read)) k) (sym (c.room_of-room.ensures.is ∙ ap (room_from 0) c.as_slice.ensures))
    ∙ ap (λ l. nat_lt (sum_by size_of l) c.room_of-room.result) (sym (take_rest read n)) ∙ sym c.is_below.ensures ∙ c.if-not-is_below.true in
    uncopied_emitted c.args.p.now.funcs c.args.f.now c.args.label old c.put_body.new.out.items read c.truncate.new.self.items c.put_uncopied.new.out.items n count
    c.deref.ensures.value c.in_ok-put_body.ensures long c.truncate.ensures.items c.in_ok-put_uncopied.ensures

pub returns-else-not-is_below : goal.returns-else-not-is_below
returns-else-not-is_below c =
    let old = c.args.out.now.items in
    let n = c.len-start.result in
    let read = c.deref.result.now in
    let count : n ≡ length old = omega (arith, c.len-start.ensures, c.args.out.now.ok.0) in
    let short : nat_lt (sum_by size_of (drop n read)) (room_from 0 c.args.f.now.code.blocks) ≡ true =
    ap (λ k. nat_lt (sum_by size_of (drop n read)) k) (sym (c.room_of-room.ensures.is ∙ ap (room_from 0) c.as_slice.ensures))
    ∙ ap (λ l. nat_lt (sum_by size_of l) c.room_of-room.result) (sym (take_rest read n)) ∙ sym c.is_below.ensures ∙ c.if-not-is_below.false in
    turned_emitted c.args.p.now.funcs c.args.f.now c.args.label old c.put_body.new.out.items read n count c.deref.ensures.value c.in_ok-put_body.ensures short
