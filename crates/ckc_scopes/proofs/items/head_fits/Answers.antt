use Rattle.std.proofs.Common.{refl, ap, sym, ◌∙◌, ◌++◌}
use Rattle.ckc_syntax.specs.Inside.{listed, inside_each}
use Rattle.ckc_typed.specs.Raw.{stars}
use Rattle.ckc_typed.specs.Walk.{written_at, spots_of_bounds, spots_of_param, spots_of_head}
use Rattle.ckc_scopes.specs.code.Verdict.{verdict}
use Rattle.ckc_scopes.proofs.Verdicts.{stops, goes}
use Rattle.ckc_scopes.proofs.items.head_fits.Goals as goal

pub returns-in_err-place_fits : goal.returns-in_err-place_fits
returns-in_err-place_fits c =
    let h = c.args.head.now in
    let items = c.args.items.now in
    let mode = c.head_mode-mode.result in
    let more = inside_each listed (spots_of_param mode) h.params ++ spots_of_bounds h.bounds in
    stops items (written_at mode (stars h.result)) more (spots_of_head c.args.pragma h) _ c.place_fits.result _
    c.from_residual.ensures.1 c.in_err-place_fits.was (c.place_fits.ensures items (stars h.result) c.first_star.ensures)
    (ap (λ m. written_at m (stars h.result) ++ (inside_each listed (spots_of_param m) h.params ++ spots_of_bounds h.bounds)) (sym c.head_mode-mode.ensures))

pub returns-in_err-params_fit : goal.returns-in_err-params_fit
returns-in_err-params_fit c =
    let h = c.args.head.now in
    let items = c.args.items.now in
    let mode = c.head_mode-mode.result in
    let more = inside_each listed (spots_of_param mode) h.params ++ spots_of_bounds h.bounds in
    goes items (written_at mode (stars h.result)) more (spots_of_head c.args.pragma h) _ c.place_fits.result
    c.in_ok-place_fits.was (c.place_fits.ensures items (stars h.result) c.first_star.ensures)
    (stops items (inside_each listed (spots_of_param mode) h.params) (spots_of_bounds h.bounds) more _ c.params_fit.result _
    c.from_residual-in_err-params_fit.ensures.1 c.in_err-params_fit.was
    (c.params_fit.ensures ∙ ap (λ ds. verdict items (inside_each listed (spots_of_param mode) ds)) c.as_slice.ensures) refl)
    (ap (λ m. written_at m (stars h.result) ++ (inside_each listed (spots_of_param m) h.params ++ spots_of_bounds h.bounds)) (sym c.head_mode-mode.ensures))

pub returns : goal.returns
returns c =
    let h = c.args.head.now in
    let items = c.args.items.now in
    let mode = c.head_mode-mode.result in
    let more = inside_each listed (spots_of_param mode) h.params ++ spots_of_bounds h.bounds in
    goes items (written_at mode (stars h.result)) more (spots_of_head c.args.pragma h) _ c.place_fits.result
    c.in_ok-place_fits.was (c.place_fits.ensures items (stars h.result) c.first_star.ensures)
    (goes items (inside_each listed (spots_of_param mode) h.params) (spots_of_bounds h.bounds) more c.bounds_fit.result c.params_fit.result
    c.in_ok-params_fit.was
    (c.params_fit.ensures ∙ ap (λ ds. verdict items (inside_each listed (spots_of_param mode) ds)) c.as_slice.ensures) c.bounds_fit.ensures refl)
    (ap (λ m. written_at m (stars h.result) ++ (inside_each listed (spots_of_param m) h.params ++ spots_of_bounds h.bounds)) (sym c.head_mode-mode.ensures))
