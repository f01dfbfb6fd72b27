use Rattle.std.proofs.Common.{◌≡◌, ◌+◌, ◌-◌, ap, take, drop, arith}
use Rattle.ckc_linear.proofs.Runs.{block_more}
use Rattle.ckc_linear.proofs.facts.passed_over.Goals as goal

pub tests-preserved : goal.tests-preserved
tests-preserved c =
    let within = c.tests.invariant.within in
    let at = c.tests.at in
    let size : at + 32 - at ≡ 32 = omega arith in
    record {
      within = omega (arith, c.tests-test.true);
      stay = block_more c.args.x c.args.facts.now _ at 32 c.tests.invariant.stay (ap (λ n. take n (drop at c.args.facts.now)) size) c.if-has.ensures;
    }
