use Rattle.ckc_bounds.proofs.WholeTexts.{text_done}
use Rattle.ckc_bounds.proofs.text.judge_text.Goals as goal

pub returns : goal.returns
returns c =
    text_done c.args.p c.in_ok-frame.frame c.judge_items-judged.new.frame c.as_slice.result.now c.as_slice-2.result.now c.in_ok-items.items c.in_ok-frame.ensures c.as_slice.ensures c.as_slice-2.ensures c.in_ok-items.ensures.judged c.in_ok-items.ensures.kept
    c.replace-layout.result c.replace-statics.result c.replace-layout.ensures.value c.replace-statics.ensures.value
