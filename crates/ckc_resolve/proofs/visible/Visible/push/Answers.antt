use Rattle.std.proofs.Common.{◌≡◌, length, arith}
use Rattle.std.specs.Str.{bytes_eq}
use Rattle.std.proofs.lemmas.Map.Text.{hash_map_updates_str}
use Rattle.indexmap.specs.IndexMap.{get_by}
use Rattle.ckc_resolve.proofs.Indexing.{pushed_to}
use Rattle.ckc_resolve.proofs.visible.Visible.push.Goals as goal

pub invariant_of-self-in-Ok : goal.invariant_of-self-in-Ok
invariant_of-self-in-Ok c =
    let text = c.as_str-text.result.now in
    let len : c.len-place.result ≡ length c.self.inside.slots.items = omega (arith, c.self.inside.slots.ok.0) in
    pushed_to c.self.inside.slots.items c.push.new.self.items (λ s. get_by (λ k. bytes_eq s k.now) c.self.inside.last) _
    (record { spelling = c.args.entry.spelling; name = c.args.entry.name; hidden = c.place-hidden.result }) c.args.self.now c.len-place.result text
    c.self.invariant c.self.view_is c.place-hidden.ensures len c.as_str-text.ensures
    (λ s. hash_map_updates_str text c.self.inside.last c.insert.new.self _ c.in-Ok.ensures.updates s) c.in_ok-push.ensures.items
