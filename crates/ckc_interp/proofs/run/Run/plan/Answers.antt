use Rattle.std.proofs.Common.{◌≡◌, ◌+◌, drop, map, Ok, sym, ◌∙◌, ap}
use Rattle.ckc_source.specs.Code.{assign_of}
use Rattle.ckc_source.specs.Steps.{planned}
use Rattle.ckc_interp_blocks.specs.Views.{shapes_of}
use Rattle.ckc_interp.specs.code.Turns.{planned_one, planned_one_as}
use Rattle.ckc_interp.specs.code.Views.{core_of}
use Rattle.ckc_interp.proofs.Planning.{plans, plans_next, next_item}
use Rattle.ckc_interp.proofs.run.Run.plan.Goals as goal

pub loop-a-preserved : goal.loop-a-preserved
loop-a-preserved c =
    let shapes = shapes_of c.args.self.now.blocks in
    let s = core_of c.loop-a.self in
    let u = core_of c.plan_one.new.self in
    let a = assign_of c.a-item.result in
    let rest = map assign_of (drop (c.loop-a.a-index + 1) c.args.assigns.now) in
    let one : planned_one shapes s a ≡ Ok (c.in-Ok.write, u) =
    ap (λ sh. planned_one sh s a) (sym c.loop-a.invariant.same) ∙ (c.in_ok-write.ensures.done ∙ ap (λ r. planned_one_as r u) c.in-Ok.is) in
    record {
      behind = ap (λ ws. plans ws (planned shapes u rest)) c.in_ok-push-in-Ok.ensures.items
          ∙ (sym (plans_next shapes s u a rest c.loop-a.writes.items c.in-Ok.write one)
          ∙ (ap (λ as'. plans c.loop-a.writes.items (planned shapes s (map assign_of as'))) (sym (next_item c.args.assigns.now c.loop-a.a-index c.a-item.result c.loop-a-test.true c.a-item.is))
          ∙ c.loop-a.invariant.behind));
      same = c.in_ok-write.ensures.shapes ∙ c.loop-a.invariant.same;
    }
