use Rattle.std.specs.Str.{bytes_eq}
use Rattle.std.proofs.lemmas.Map.Text.{hash_map_updates_str}
use Rattle.indexmap.specs.IndexMap.{get_by}
use Rattle.ckc_resolve.proofs.Indexing.{popped_from, present_in}
use Rattle.ckc_resolve.proofs.visible.Visible.forget_last.Goals as goal

pub invariant_of-self : goal.invariant_of-self
invariant_of-self c =
    popped_from c.pop.new.self.items c.self.inside.slots.items (λ s. get_by (λ k. bytes_eq s k.now) c.self.inside.last) _ c.in-Some.slot c.as_str.result.now
    c.self.invariant c.in-Some.ensures.items c.as_str.ensures (λ s. hash_map_updates_str c.as_str.result.now c.self.inside.last c.insert.new.self _ c.in-Ok.ensures.updates s)

pub unreachable-requires : goal.unreachable-requires
unreachable-requires c =
    present_in c.pop.new.self.items c.self.inside.slots.items (λ s. get_by (λ k. bytes_eq s k.now) c.self.inside.last) c.in-Some.slot c.as_str.result.now
    c.self.invariant c.in-Some.ensures.items c.as_str.ensures c.in-Err.ensures.absent
