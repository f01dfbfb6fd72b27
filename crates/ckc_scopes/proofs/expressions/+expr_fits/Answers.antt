use Rattle.std.proofs.Common.{refl, ap, sym, ◌∙◌, ◌++◌}
use Rattle.std.specs.Prelude.{map, ◌∷◌}
use Rattle.ckc_syntax.specs.declared.tree.Name.{Name}
use Rattle.ckc_syntax.specs.declared.tree.Expr.{out-Expr}
use Rattle.ckc_syntax.specs.Inside.{listed, inside_each}
use Rattle.ckc_typed.specs.declared.typed.Note.{Note}
use Rattle.ckc_typed.specs.Walk.{within, spot, value, spots_of_expr, spots_of_bounds, spots_of_limits}
use Rattle.ckc_scopes.specs.code.Verdict.{verdict}
use Rattle.ckc_scopes.proofs.Verdicts.{stops, goes, loop_stops, loop_goes}
use Rattle.ckc_scopes.proofs.Parts.{parts_of_call, parts_of_between, parts_of_bin, parts_of_index, parts_of_pick, parts_of_trusted, parts_of_tested, spots_of_whole}
use Rattle.ckc_scopes.proofs.expressions.+expr_fits.Goals as goal

pub limits_fit-returns-in_err-expr_fits-in-Between : goal.limits_fit-returns-in_err-expr_fits-in-Between
limits_fit-returns-in_err-expr_fits-in-Between t c =
    let k = parts_of_between c.in-Between.e c.in-Between.f c.in-Between.field-2 in
    stops c.args.items.now (spots_of_expr c.in-Between.e) (spots_of_expr c.in-Between.f) (spots_of_limits c.args.limits.now) _ _ _ c.from_residual.ensures.1 c.in_err-expr_fits-in-Between.was (cc) (cc)

pub limits_fit-returns-in_ok-expr_fits-in-Between : goal.limits_fit-returns-in_ok-expr_fits-in-Between
limits_fit-returns-in_ok-expr_fits-in-Between t c =
    let k = parts_of_between c.in-Between.e c.in-Between.f c.in-Between.field-2 in
    goes c.args.items.now (spots_of_expr c.in-Between.e) (spots_of_expr c.in-Between.f) (spots_of_limits c.args.limits.now) _ _ c.in_ok-expr_fits-in-Between.was (cc) (cc) (cc)

pub parts_fit-returns-in_err-expr_fits-in-Bin : goal.parts_fit-returns-in_err-expr_fits-in-Bin
parts_fit-returns-in_err-expr_fits-in-Bin t c =
    let k = parts_of_bin c.in-Bin.field-0 c.in-Bin.e c.in-Bin.f in
    stops c.args.items.now (spots_of_expr c.in-Bin.e) (spots_of_expr c.in-Bin.f) (within c.args.node.now).parts _ _ _ c.from_residual.ensures.1 c.in_err-expr_fits-in-Bin.was (cc) (cc)

pub parts_fit-returns-in_ok-expr_fits-in-Bin : goal.parts_fit-returns-in_ok-expr_fits-in-Bin
parts_fit-returns-in_ok-expr_fits-in-Bin t c =
    let k = parts_of_bin c.in-Bin.field-0 c.in-Bin.e c.in-Bin.f in
    goes c.args.items.now (spots_of_expr c.in-Bin.e) (spots_of_expr c.in-Bin.f) (within c.args.node.now).parts _ _ c.in_ok-expr_fits-in-Bin.was (cc) (cc) (cc)

pub parts_fit-returns-in_err-expr_fits-in-Index : goal.parts_fit-returns-in_err-expr_fits-in-Index
parts_fit-returns-in_err-expr_fits-in-Index t c =
    let k = parts_of_index c.in-Index.e c.in-Index.f in
    stops c.args.items.now (spots_of_expr c.in-Index.e) (spots_of_expr c.in-Index.f) (within c.args.node.now).parts _ _ _ c.from_residual-in_err-expr_fits-in-Index.ensures.1 c.in_err-expr_fits-in-Index.was (cc) (cc)

pub parts_fit-returns-in_ok-expr_fits-in-Index : goal.parts_fit-returns-in_ok-expr_fits-in-Index
parts_fit-returns-in_ok-expr_fits-in-Index t c =
    let k = parts_of_index c.in-Index.e c.in-Index.f in
    goes c.args.items.now (spots_of_expr c.in-Index.e) (spots_of_expr c.in-Index.f) (within c.args.node.now).parts _ _ c.in_ok-expr_fits-in-Index.was (cc) (cc) (cc)

pub parts_fit-returns-in_err-expr_fits-in-Trusted : goal.parts_fit-returns-in_err-expr_fits-in-Trusted
parts_fit-returns-in_err-expr_fits-in-Trusted t c =
    let k = parts_of_trusted c.in-Trusted.field-0 c.in-Trusted.e c.in-Trusted.limits in
    stops c.args.items.now (spots_of_expr c.in-Trusted.e) (spots_of_bounds c.in-Trusted.limits) (within c.args.node.now).parts _ _ _ c.from_residual-in_err-expr_fits-in-Trusted.ensures.1 c.in_err-expr_fits-in-Trusted.was (cc) (cc)

pub parts_fit-returns-in_ok-expr_fits-in-Trusted : goal.parts_fit-returns-in_ok-expr_fits-in-Trusted
parts_fit-returns-in_ok-expr_fits-in-Trusted t c =
    let k = parts_of_trusted c.in-Trusted.field-0 c.in-Trusted.e c.in-Trusted.limits in
    goes c.args.items.now (spots_of_expr c.in-Trusted.e) (spots_of_bounds c.in-Trusted.limits) (within c.args.node.now).parts _ _ c.in_ok-expr_fits-in-Trusted.was (cc) (cc) (cc)

pub parts_fit-returns-in_err-expr_fits-in-Tested : goal.parts_fit-returns-in_err-expr_fits-in-Tested
parts_fit-returns-in_err-expr_fits-in-Tested t c =
    let k = parts_of_tested c.in-Tested.field-0 c.in-Tested.e c.in-Tested.limits in
    stops c.args.items.now (spots_of_expr c.in-Tested.e) (spots_of_bounds c.in-Tested.limits) (within c.args.node.now).parts _ _ _ c.from_residual-in_err-expr_fits-in-Tested.ensures.1 c.in_err-expr_fits-in-Tested.was (cc) (cc)

pub parts_fit-returns-in_ok-expr_fits-in-Tested : goal.parts_fit-returns-in_ok-expr_fits-in-Tested
parts_fit-returns-in_ok-expr_fits-in-Tested t c =
    let k = parts_of_tested c.in-Tested.field-0 c.in-Tested.e c.in-Tested.limits in
    goes c.args.items.now (spots_of_expr c.in-Tested.e) (spots_of_bounds c.in-Tested.limits) (within c.args.node.now).parts _ _ c.in_ok-expr_fits-in-Tested.was (cc) (cc) (cc)

pub parts_fit-returns-in_err-expr_fits-in-Pick : goal.parts_fit-returns-in_err-expr_fits-in-Pick
parts_fit-returns-in_err-expr_fits-in-Pick t c =
    let k = parts_of_pick c.in-Pick.e c.in-Pick.f c.in-Pick.g in
    stops c.args.items.now (spots_of_expr c.in-Pick.e) (spots_of_expr c.in-Pick.f ++ spots_of_expr c.in-Pick.g) (within c.args.node.now).parts _ _ _ c.from_residual-in_err-expr_fits-in-Pick.ensures.1 c.in_err-expr_fits-in-Pick.was (cc) (cc)

pub parts_fit-returns-in_err-expr_fits-in-Pick-2 : goal.parts_fit-returns-in_err-expr_fits-in-Pick-2
parts_fit-returns-in_err-expr_fits-in-Pick-2 t c =
    let k = parts_of_pick c.in-Pick.e c.in-Pick.f c.in-Pick.g in
    let more = spots_of_expr c.in-Pick.f ++ spots_of_expr c.in-Pick.g in
    goes c.args.items.now (spots_of_expr c.in-Pick.e) more (within c.args.node.now).parts _ c.expr_fits-in-Pick.result c.in_ok-expr_fits-in-Pick.was (cc)
    (stops c.args.items.now (spots_of_expr c.in-Pick.f) (spots_of_expr c.in-Pick.g) more _ c.expr_fits-in-Pick-2.result _ c.from_residual-in_err-expr_fits-in-Pick-2.ensures.1 c.in_err-expr_fits-in-Pick-2.was (cc) refl)
    (cc)

pub parts_fit-returns-in_ok-expr_fits-in-Pick-2 : goal.parts_fit-returns-in_ok-expr_fits-in-Pick-2
parts_fit-returns-in_ok-expr_fits-in-Pick-2 t c =
    let k = parts_of_pick c.in-Pick.e c.in-Pick.f c.in-Pick.g in
    let more = spots_of_expr c.in-Pick.f ++ spots_of_expr c.in-Pick.g in
    goes c.args.items.now (spots_of_expr c.in-Pick.e) more (within c.args.node.now).parts _ c.expr_fits-in-Pick.result c.in_ok-expr_fits-in-Pick.was (cc)
    (goes c.args.items.now (spots_of_expr c.in-Pick.f) (spots_of_expr c.in-Pick.g) more c.expr_fits-in-Pick-3.result c.expr_fits-in-Pick-2.result c.in_ok-expr_fits-in-Pick-2.was (cc) (cc) refl)
    (cc)

pub parts_fit-returns-in-Call : goal.parts_fit-returns-in-Call
parts_fit-returns-in-Call t c =
    let e = ap (λ n. (within n).parts) c.in-Call.is ∙ parts_of_call c.in-Call.field-0 c.in-Call.es ∙ ap (λ es. inside_each listed spots_of_expr es) (sym c.as_slice.ensures) in
    c.exprs_fit.ensures ∙ ap (λ ss. verdict c.args.items.now ss) (sym e)

pub expr_fits-returns-in_err-parts_fit : goal.expr_fits-returns-in_err-parts_fit
expr_fits-returns-in_err-parts_fit t c =
    let e = out-Expr Name Note c.args.e.now in
    let own = map (spot e.note.mode e.pos) (value e.note.ctype ∷ (within e.node).own) in
    stops c.args.items.now (within e.node).parts own (spots_of_expr c.args.e.now) _ _ _ c.from_residual.ensures.1 c.in_err-parts_fit.was c.parts_fit.ensures (spots_of_whole c.args.e.now)

pub expr_fits-returns : goal.expr_fits-returns
expr_fits-returns t c =
    let e = out-Expr Name Note c.args.e.now in
    let own = map (spot e.note.mode e.pos) (value e.note.ctype ∷ (within e.node).own) in
    goes c.args.items.now (within e.node).parts own (spots_of_expr c.args.e.now) _ _ c.in_ok-parts_fit.was c.parts_fit.ensures c.own_fits.ensures (spots_of_whole c.args.e.now)

pub exprs_fit-returns-in_err-expr_fits : goal.exprs_fit-returns-in_err-expr_fits
exprs_fit-returns-in_err-expr_fits t c =
    loop_stops c.args.items.now spots_of_expr c.args.es.now c.loop-e.e-index c.e-item.result _ _ _ c.loop-e-test.true c.e-item.is c.loop-e.invariant c.from_residual.ensures.1 c.in_err-expr_fits.was c.expr_fits.ensures

pub exprs_fit-loop-e-preserved : goal.exprs_fit-loop-e-preserved
exprs_fit-loop-e-preserved t c =
    loop_goes c.args.items.now spots_of_expr c.args.es.now c.loop-e.e-index c.e-item.result _ c.loop-e-test.true c.e-item.is c.loop-e.invariant c.in_ok-expr_fits.was c.expr_fits.ensures
