use Rattle.std.specs.Bool.{one_answer}
use Rattle.ckc_resolve.specs.Same.{equal_heads, same_head}
use Rattle.ckc_resolve.proofs.FirstHeads.{found}
use Rattle.ckc_resolve.proofs.items.is_defined.Goals as goal

pub returns-in-Some : goal.returns-in-Some
returns-in-Some c =
    let g = c.args.head.now in
    let h = c.in-Some.first.now in
    found c.args.bodies.now c.args.all.now c.as_str.result.now g.name h g c.same_head.result c.requires c.as_str.ensures
    c.in-Some.ensures.value (one_answer c.same_head.result (same_head g h.now) c.same_head.ensures (equal_heads g h.now).1)
