use Rattle.std.proofs.Common.{◌∙◌, ap, length, refl, subst, sym}
use Rattle.std.proofs.lemmas.Option.{slice_get_read}
use Rattle.ckc_tac.specs.WellFormed.{IsBlockOver}
use Rattle.ckc_passes.proofs.Followed.{all_at}
use Rattle.ckc_passes_jumps.specs.declared.ways.Ways.{Ways}
use Rattle.ckc_passes_jumps.specs.code.Ways.{AreRight}
use Rattle.ckc_passes_jumps.proofs.Placing.{not_reached, taken_stays, taken_goes, taken_all}
use Rattle.ckc_passes_jumps.proofs.blocks.marked.Goals.{then-marks-b+in_ok-one+in_ok-push, else-marks-b}
use Rattle.ckc_passes_jumps.proofs.blocks.marked.Goals as goal

pub loop-b-preserved : goal.loop-b-preserved
loop-b-preserved c =
    let blocks = c.args.blocks.now in
    let b = c.loop-b.b in
    let k = c.loop-b.invariant in
    record {
      right = elim c.if-marks-b.branch [
        | then-marks-b+in_ok-one+in_ok-push w ↦ subst (λ (v : Ways). AreRight blocks v.walks.items v.ends.items) (sym w.ways-is) w.in_ok-one.ensures.right
        | else-marks-b w ↦ subst (λ (v : Ways). AreRight blocks v.walks.items v.ends.items) (sym w.ways-is) k.right
      ];
      taken = λ functions regs over. elim c.if-marks-b.branch [
        | then-marks-b+in_ok-one+in_ok-push w ↦
            let block = w.index-blocks-b.result in
            let at = slice_get_read blocks (length blocks) b block refl c.loop-b-test.true w.index-blocks-b.is in
            taken_stays blocks b block w.in_ok-one.one c.loop-b.left.items c.if-marks-b.left.items c.loop-b-test.true w.index-blocks-b.is
            (ap (λ v. v.items) w.left-is ∙ w.in_ok-push.ensures.items)
            (c.requires.reached.sound b w.if-marks-b.true)
            (w.in_ok-one.ensures.exact functions regs (all_at (IsBlockOver functions (length blocks) regs) blocks b block over at)) (k.taken functions regs over)
        | else-marks-b w ↦
            taken_goes blocks b c.loop-b.left.items c.if-marks-b.left.items c.loop-b-test.true (ap (λ v. v.items) w.left-is)
            (not_reached blocks c.args.marks.now b c.requires.reached c.loop-b-test.true w.if-marks-b.false) (k.taken functions regs over)
      ];
    }

pub returns : goal.returns
returns c = λ functions regs over.
    taken_all c.args.blocks.now c.loop-b.b c.loop-b.left.items c.loop-b-test.false (c.loop-b.invariant.taken functions regs over)
