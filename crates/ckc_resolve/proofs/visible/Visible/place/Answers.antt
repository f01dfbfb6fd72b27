use Rattle.std.specs.Str.{bytes_eq}
use Rattle.indexmap.specs.IndexMap.{get_by}
use Rattle.ckc_resolve.proofs.Indexing.{place_some}
use Rattle.ckc_resolve.proofs.visible.Visible.place.Goals as goal

pub returns-in-Some : goal.returns-in-Some
returns-in-Some c =
    place_some (λ s. get_by (λ k. bytes_eq s k.now) c.self.inside.last) c.self.inside.slots.items c.args.self.now c.as_str.result.now c.args.s.now c.in-Some.place.now
    c.self.invariant c.self.view_is c.as_str.ensures c.in-Some.ensures.value
