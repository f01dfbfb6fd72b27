use Rattle.std.proofs.Common.{arith, ap, length, subst, sym, ◌≡◌, ◌+◌, ℤ}
use Rattle.std.proofs.lemmas.List.{length-set}
use Rattle.ckc_linear.specs.code.Rows.{IsRow, IsRound}
use Rattle.ckc_linear.proofs.Walks.{row_small, row_round, row_settled}
use Rattle.ckc_linear.proofs.chains.find_sums.Goals as goal

pub round-requires-clause-small : goal.round-requires-clause-small
round-requires-clause-small c =
    let facts = c.args.facts.now in
    row_small facts.vars facts.list facts.in_range c.args.y c.loop-most._most c.loop-most.sums (omega (arith, facts.small)) c.loop-most.invariant

pub returns-then-not-round : goal.returns-then-not-round
returns-then-not-round c =
    let facts = c.args.facts.now in
    let sums = c.loop-most.sums in
    let long : length sums ≡ facts.vars = omega (arith, length-set {A = ℤ}) in
    let small = row_small facts.vars facts.list facts.in_range c.args.y c.loop-most._most sums (omega (arith, facts.small)) c.loop-most.invariant in
    let told = c.if-not-round.ensures in
    row_settled facts.vars facts.list facts.in_range c.args.y c.loop-most._most (facts.vars + 1) sums long small (omega arith) c.loop-most.invariant
    (subst (λ row. IsRound facts.list sums row) told.same told.round)

pub loop-most-preserved : goal.loop-most-preserved
loop-most-preserved c =
    let facts = c.args.facts.now in
    let sums = c.loop-most.sums in
    let next = c.round.new.next in
    let long : length sums ≡ facts.vars = omega (arith, length-set {A = ℤ}) in
    let small = row_small facts.vars facts.list facts.in_range c.args.y c.loop-most._most sums (omega (arith, facts.small)) c.loop-most.invariant in
    let after = c.copy_from_slice-in-loop-most.ensures.after in
    subst (λ row. IsRow facts.list c.args.y (c.loop-most._most + 1) row) (sym after)
    (row_round facts.vars facts.list facts.in_range c.args.y c.loop-most._most sums next long (omega (arith, ap length after, c.copy_from_slice-in-loop-most.ensures.len)) small c.loop-most.invariant c.round.ensures.round)
