use Rattle.std.proofs.Common.{◌≡◌, ◌∙◌, ◌+◌, Result, Ok, Err, OnOk, List, Bool, Some, length, sym, ap, subst, get_or, [], arith}
use Rattle.std.proofs.lemmas.List.{get_or_read}
use Rattle.ckc_tac.specs.declared.code.TacOp.{TacOp}
use Rattle.ckc_flow.specs.Live.{IsExact, target_of}
use Rattle.ckc_assign.specs.code.Ranges.{SeesOps, no_op}
use Rattle.ckc_assign.proofs.Growing.{ops_none, ops_more, sees_as, block_seen}
use Rattle.ckc_assign.proofs.ranges.see_block.Goals as goal

on_ok : {A E : Type 0} (r : Result A E) (P : Type 0) → P → OnOk r P
on_ok (Ok x) P h = h
on_ok (Err e) P h = tt

pub loop-op-init : goal.loop-op-init
loop-op-init c = record {
  place = omega arith;
  seen = ops_none c.as_slice-op-items.result.now c.args.place c.see_row.new.ranges;
}

pub loop-op-preserved : goal.loop-op-preserved
loop-op-preserved c =
    let ops = c.as_slice-op-items.result.now in
    let i = c.loop-op.op-index in
    let op = c.op-item.result in
    let is = get_or_read ops i op c.loop-op-test.true c.op-item.is no_op in
    let next : c.in_ok-next.next ≡ c.loop-op.at + 1 = c.in_ok-next.ensures in
    record {
      place = omega (arith, next, c.loop-op.invariant.place);
      seen = ops_more ops i c.args.place c.loop-op.at c.in_ok-next.next op c.see_row.new.ranges c.loop-op.ranges c.see_reads.new.ranges c.see_target.new.ranges
          c.loop-op.invariant.place next is c.loop-op.invariant.seen c.see_reads.ensures
          (sees_as c.in_ok-next.next (λ r. c.target.result ≡ Some r) (λ r. target_of op ≡ Some r) c.see_reads.new.ranges c.see_target.new.ranges c.see_target.ensures
          (λ r e. c.target.ensures ∙ e) (λ r e. sym c.target.ensures ∙ e));
    }

pub returns-clause-seen : goal.returns-clause-seen
returns-clause-seen c = on_ok c.sum-2.result _ (λ f exact row_long begin long.
    let block = c.args.block.now in
    let live = c.args.live.now in
    let b = c.args.b in
    let first : c.as_slice.result.now ≡ get_or live b [] = c.as_slice.ensures ∙ get_or_read live b c.index-live-b.result c.requires.there c.index-live-b.is [] in
    let ops = c.as_slice-op-items.result.now in
    let same : ops ≡ block.ops = c.as_slice-op-items.ensures in
    let count : c.loop-op.op-index ≡ length block.ops = omega (arith, ap length same) in
    let seen : SeesOps block.ops (length block.ops) c.args.place c.see_row.new.ranges c.loop-op.ranges =
    subst (λ n. SeesOps block.ops n c.args.place c.see_row.new.ranges c.loop-op.ranges) count
    (subst (λ (l : List TacOp). SeesOps l c.loop-op.op-index c.args.place c.see_row.new.ranges c.loop-op.ranges) same c.loop-op.invariant.seen) in
    block_seen f block c.args.place c.loop-op.at c.as_slice.result.now c.before_end.new.row c.args.ranges.now c.see_row.new.ranges c.loop-op.ranges c.see_row-2.new.ranges
    long (subst (λ (l : List Bool). IsExact f block.ops block.end l) (sym first) begin) (c.before_end.ensures.exact f exact row_long)
    (c.loop-op.invariant.place ∙ ap (λ n. c.args.place + n) count) c.see_row.ensures seen c.see_row-2.ensures)
