use Rattle.std.proofs.Common.{◌≡◌}
use Rattle.ckc_bounds.specs.code.Declarations.{text_of}
use Rattle.ckc_bounds.specs.Texts.{item_judged, items_judged}
use Rattle.ckc_base.proofs.Turns.{ahead, judged}
use Rattle.ckc_bounds.proofs.items.judge_items.Given as goal

abbrev pub invariant-loop-item : goal.invariant-loop-item
invariant-loop-item l = record {
  judged : items_judged (text_of l.fn.frame) l.items ≡ ahead l.all (judged (item_judged (text_of l.fn.frame)) l.items l.item-index);
  kept : text_of l.frame ≡ text_of l.fn.frame;
}
