use Rattle.std.proofs.Common.{◌+◌, ◌∙◌, ap, drop, arith}
use Rattle.std.proofs.lemmas.List.{take_rest}
use Rattle.ckc_linear.proofs.Runs.{goes_on}
use Rattle.ckc_linear.proofs.facts.without.Goals as goal

pub runs-preserved : goal.runs-preserved
runs-preserved c =
    goes_on c.args.x c.args.list c.runs.items.items c.copy_within.new.self.items _ c.runs.kept c.runs.from c.others-run.result c.runs.invariant (omega (arith, c.runs-test.true, c.len.ensures))
    (take_rest c.deref.result.now (c.runs.from + 1) ∙ ap (drop (c.runs.from + 1)) c.deref.ensures.value) c.others-run.ensures c.copy_within.ensures.items
