use Rattle.std.proofs.lemmas.Result.{err_from_is_err_and}
use Rattle.ckc_syntax_limits.proofs.Limiting.{fits_ok, fits_err}
use Rattle.ckc_syntax_limits.proofs.limits.fits.Goals as goal

pub returns-clause-exact : goal.returns-clause-exact
returns-clause-exact g c = fits_ok c.args.tree.now c.in_ok-judged.ensures

pub returns-in_err-judged-clause-exact : goal.returns-in_err-judged-clause-exact
returns-in_err-judged-clause-exact g c =
    let p = err_from_is_err_and c.from_residual.result c.from_residual.ensures.1 in
    fits_err c.args.tree.now c.in_err-judged.field-0.0 p.0 c.from_residual.result c.in_err-judged.ensures p.1 p.2
