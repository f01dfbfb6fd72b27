use Rattle.std.proofs.Common.{ap, ◌∙◌}
use Rattle.ckc_typed.specs.Walk.{spots_of_head, spots_of_item, spots_of_stmt}
use Rattle.ckc_scopes.specs.code.Verdict.{verdict}
use Rattle.ckc_scopes.proofs.Verdicts.{stops, goes}
use Rattle.ckc_scopes.proofs.items.item_fits.Goals as goal

pub returns-in_err-head_fits-in-Function : goal.returns-in_err-head_fits-in-Function
returns-in_err-head_fits-in-Function c =
    stops c.args.items.now (spots_of_head c.args.pragma c.in-Function.head) (spots_of_stmt c.in-Function.body) (spots_of_item c.args.pragma c.args.item.now) _ c.head_fits-in-Function.result _
    c.from_residual.ensures.1 c.in_err-head_fits-in-Function.was
    (c.head_fits-in-Function.ensures ∙ ap (λ h. verdict c.args.items.now (spots_of_head c.args.pragma h)) c.get-in-Function.ensures) (ap (λ i. spots_of_item c.args.pragma i) c.in-Function.is)

pub returns-in_ok-head_fits-in-Function : goal.returns-in_ok-head_fits-in-Function
returns-in_ok-head_fits-in-Function c =
    goes c.args.items.now (spots_of_head c.args.pragma c.in-Function.head) (spots_of_stmt c.in-Function.body) (spots_of_item c.args.pragma c.args.item.now) c.stmt_fits.result c.head_fits-in-Function.result
    c.in_ok-head_fits-in-Function.was
    (c.head_fits-in-Function.ensures ∙ ap (λ h. verdict c.args.items.now (spots_of_head c.args.pragma h)) c.get-in-Function.ensures)
    (c.stmt_fits.ensures ∙ ap (λ s. verdict c.args.items.now (spots_of_stmt s)) c.get-in-Function-2.ensures)
    (ap (λ i. spots_of_item c.args.pragma i) c.in-Function.is)
