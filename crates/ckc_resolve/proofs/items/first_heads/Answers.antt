use Rattle.std.proofs.Common.{◌-◌, ◌∷◌, length, drop, ap, ◌∙◌}
use Rattle.std.proofs.lemmas.Map.Text.{hash_map_updates_str}
use Rattle.ckc_syntax.specs.declared.tree.Item.TheVariants as item
use Rattle.ckc_resolve.proofs.FirstHeads.{before, put, passed, seen}
use Rattle.ckc_resolve.proofs.items.first_heads.Goals.{in-Function+in_ok-insert, in_default}
use Rattle.ckc_resolve.proofs.items.first_heads.Goals as goal

pub loop-done-preserved : goal.loop-done-preserved
loop-done-preserved c =
    let rest = drop (length c.args.all.now - c.loop-done.done) c.args.all.now in
    let here = before c.args.all.now c.loop-done.done c.index-all-all.result c.loop-done-test.true c.index-all-all.is in
    elim c.match-all-done.branch [
      | in-Function+in_ok-insert w ↦
          seen w.insert.new.self c.match-all-done.heads (item.Function w.in-Function.head w.in-Function.field-1 ∷ rest) _ w.heads-is (here ∙ ap (λ i. i ∷ rest) w.in-Function.is)
          (put c.loop-done.heads w.insert.new.self rest c.loop-done.invariant w.in-Function.head w.in-Function.field-1 w.as_str.result.now w.get-head.result (w.as_str.ensures ∙ ap (λ h. h.name) w.get-head.ensures) w.get-head.ensures
          (λ s. hash_map_updates_str w.as_str.result.now c.loop-done.heads w.insert.new.self _ w.in_ok-insert.ensures.updates s))
      | in_default w ↦
          seen c.loop-done.heads c.match-all-done.heads (c.index-all-all.result ∷ rest) _ w.heads-is here
          (passed c.loop-done.heads rest c.index-all-all.result w.in_default.not-Function c.loop-done.invariant)
    ]
