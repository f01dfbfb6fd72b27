use Rattle.std.proofs.Common.{rules}
use Rattle.ckc_core.specs.declared.code.CoreExpr.TheFolds.{the_lemmas}
use Rattle.ckc_checks_guards.proofs.guards.cancels.Goals as goal

pub returns : goal.returns
returns c = search (rules, the_lemmas)
