use Rattle.std.proofs.Common.{ap, sym, ◌∙◌}
use Rattle.ckc_base.specs.declared.arithmetic.Mode.TheVariants.{Unchecked}
use Rattle.ckc_typed.specs.Walk.{spots_of_items}
use Rattle.ckc_scopes.specs.code.Verdict.{verdict}
use Rattle.ckc_scopes.proofs.Firsts.{scoped_exact, fault_exact}
use Rattle.ckc_scopes.proofs.text.scopes.Goals as goal

pub returns-in-Ok-clause-exact : goal.returns-in-Ok-clause-exact
returns-in-Ok-clause-exact c =
    let e = c.items_fit.ensures ∙ ap (λ is. verdict is (spots_of_items Unchecked is)) c.as_slice.ensures in
    scoped_exact c.args.p (sym e ∙ c.in-Ok.is)

pub returns-in-Err-clause-exact : goal.returns-in-Err-clause-exact
returns-in-Err-clause-exact c =
    let e = c.items_fit.ensures ∙ ap (λ is. verdict is (spots_of_items Unchecked is)) c.as_slice.ensures in
    fault_exact c.args.p c.in-Err.refusal (sym e ∙ c.in-Err.is)
