use Rattle.std.proofs.Common.{arith, ap, get_or, length, pos}
use Rattle.ckc_linear.specs.declared.facts.Fact.{Fact}
use Rattle.ckc_linear.specs.Facts.{IsInRange}
use Rattle.std.proofs.lemmas.List.Elements.{All-same}
use Rattle.std.proofs.lemmas.List.{get_or_default}
use Rattle.ckc_linear.proofs.Rounds.{round_more, same_more}
use Rattle.ckc_linear.proofs.chains.round.Goals as goal

pub loop-f-preserved : goal.loop-f-preserved
loop-f-preserved c =
    let items = c.as_slice-f-items.result.now in
    let i = c.loop-f.f-index in
    let d : Fact = record { x = 0; y = 0; c = pos 0 } in
    let f = get_or items i d in
    let within = c.loop-f-test.true in
    let in_range = All-same (IsInRange c.args.facts.now.vars) _ _ c.as_slice-f-items.ensures c.args.facts.now.in_range i d within in
    record {
      round = round_more items i f c.lowers-lowered.result c.args.sums.now c.loop-f.next _ within (get_or_default items i d f within)
          (omega (arith, in_range.left, ap length c.requires.same)) c.loop-f.invariant.round c.lowers-lowered.ensures;
      same = same_more f c.loop-f.lowered c.lowers-lowered.result c.args.sums.now c.loop-f.next _ c.loop-f.invariant.same c.lowers-lowered.ensures;
    }
