use Rattle.std.proofs.Common.{refl, ◌++◌}
use Rattle.ckc_typed.specs.Walk.{written_at, spots_of_bounds, spots_of_init, spots_declared}
use Rattle.ckc_scopes.proofs.Verdicts.{stops, goes}
use Rattle.ckc_scopes.proofs.statements.declared_fits.Goals as goal

pub returns-in_err-place_fits : goal.returns-in_err-place_fits
returns-in_err-place_fits c = λ places e.
    let d = c.args.decl.now in
    let items = c.args.items.now in
    stops items (written_at c.args.mode places) (spots_of_bounds d.bounds ++ spots_of_init d.init) (spots_declared c.args.mode places d) _ c.place_fits.result _
    c.from_residual.ensures.1 c.in_err-place_fits.was (c.place_fits.ensures items places e) refl

pub returns-in_err-bounds_fit : goal.returns-in_err-bounds_fit
returns-in_err-bounds_fit c = λ places e.
    let d = c.args.decl.now in
    let items = c.args.items.now in
    let more = spots_of_bounds d.bounds ++ spots_of_init d.init in
    goes items (written_at c.args.mode places) more (spots_declared c.args.mode places d) _ c.place_fits.result
    c.in_ok-place_fits.was (c.place_fits.ensures items places e)
    (stops items (spots_of_bounds d.bounds) (spots_of_init d.init) more _ c.bounds_fit.result _ c.from_residual-in_err-bounds_fit.ensures.1 c.in_err-bounds_fit.was c.bounds_fit.ensures refl)
    refl

pub returns : goal.returns
returns c = λ places e.
    let d = c.args.decl.now in
    let items = c.args.items.now in
    let more = spots_of_bounds d.bounds ++ spots_of_init d.init in
    goes items (written_at c.args.mode places) more (spots_declared c.args.mode places d) _ c.place_fits.result
    c.in_ok-place_fits.was (c.place_fits.ensures items places e)
    (goes items (spots_of_bounds d.bounds) (spots_of_init d.init) more c.init_fits.result c.bounds_fit.result c.in_ok-bounds_fit.was c.bounds_fit.ensures c.init_fits.ensures refl)
    refl
