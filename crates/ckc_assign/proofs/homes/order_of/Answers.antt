use Rattle.std.proofs.Common.{rules, length}
use Rattle.std.proofs.lemmas.List.Sorted.{IsNonDecreasingBy-from_sort_by_key}
use Rattle.ckc_assign.specs.declared.homes.Start.{Start}
use Rattle.ckc_assign.proofs.Fair.{starts_sorted}
use Rattle.ckc_assign.proofs.homes.order_of.Goals as goal

pub returns : goal.returns
returns c = record {
  starts = starts_sorted c.args.ranges.now (length c.args.ranges.now) c.in_ok-order.order.items _ c.sort_unstable_by_key.ensures.permutation c.in_ok-order.ensures;
  sorted = IsNonDecreasingBy-from_sort_by_key (λ (s : Start). s.first) _ c.sort_unstable_by_key.ensures.sorted (λ a r q k. search rules);
}
