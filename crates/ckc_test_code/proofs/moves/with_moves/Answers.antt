use Rattle.std.proofs.Common.{List, sym, subst}
use Rattle.ckc_frame.specs.declared.code.PlacedFunc.{PlacedFunc}
use Rattle.ckc_frame.specs.WellFormed.{IsWellFormed}
use Rattle.ckc_test_code.proofs.SwappedLast.{swapped_whole}
use Rattle.ckc_test_code.proofs.moves.with_moves.Goals as goal

pub returns-clause-whole : goal.returns-clause-whole
returns-clause-whole c =
    subst (λ (l : List PlacedFunc). IsWellFormed (record { initial = c.args.placed.initial; funcs = l; main = c.args.placed.main })) (sym c.in_ok-push-in-Some.ensures.ok)
    (swapped_whole c.args.placed c.pop.new.self c.in-Some.last c.in_ok-other-in-Some.other c.requires c.in-Some.ensures c.in_ok-other-in-Some.ensures.code c.in_ok-other-in-Some.ensures.whole)
