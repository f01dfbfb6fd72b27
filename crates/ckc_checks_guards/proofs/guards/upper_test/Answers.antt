use Rattle.std.proofs.Common.{rules}
use Rattle.ckc_core.specs.declared.code.CoreExpr.TheFolds.{the_lemmas}
use Rattle.ckc_checks_guards.proofs.guards.upper_test.Goals as goal

pub returns-else-last : goal.returns-else-last
returns-else-last c = search (rules, the_lemmas)
