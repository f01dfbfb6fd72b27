use Rattle.std.proofs.Common.{arith, false, slice_index_or}
use Rattle.ckc_emit_templates.specs.code.Saved.{kept_lines}
use Rattle.ckc_emit_templates.proofs.Turns.{each_turn, each_done}
use Rattle.ckc_emit_templates.proofs.saved.put_each.Goals as goal

pub loop-k-preserved : goal.loop-k-preserved
loop-k-preserved c = each_turn (kept_lines c.args.restores) (λ j. slice_index_or c.args.marked.now j false) c.args.out.now.items c.loop-k.out.items c.put_kept.new.out.items c.loop-k.k (omega arith) c.in_ok-put_kept.ensures c.loop-k.invariant

pub returns : goal.returns
returns c = each_done (kept_lines c.args.restores) (λ j. slice_index_or c.args.marked.now j false) c.args.out.now.items c.loop-k.out.items c.loop-k.k (omega arith) c.loop-k.invariant
