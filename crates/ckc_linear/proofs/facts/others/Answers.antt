use Rattle.std.proofs.Common.{◌-◌, sym, ◌∙◌, length, take, drop, arith}
use Rattle.std.proofs.lemmas.List.{take_rest}
use Rattle.ckc_linear.proofs.Runs.{found_there, found_nowhere}
use Rattle.ckc_linear.proofs.facts.others.Goals as goal

pub returns-then-names : goal.returns-then-names
returns-then-names c =
    let facts = c.args.facts.now in
    let start = c.passed_over-start in
    found_there c.args.x facts (take (length facts - start.result) (drop start.result facts)) start.result c.loop-k.k _ (take_rest facts start.result) start.ensures.within start.ensures.stay c.loop-k.invariant (omega (arith, c.loop-k-test.true)) (sym c.names.ensures ∙ c.if-names.true)

pub returns : goal.returns
returns c =
    let facts = c.args.facts.now in
    let start = c.passed_over-start in
    found_nowhere c.args.x facts (take (length facts - start.result) (drop start.result facts)) start.result c.loop-k.k (take_rest facts start.result) start.ensures.within start.ensures.stay c.loop-k.invariant (omega (arith, c.loop-k-test.false))
