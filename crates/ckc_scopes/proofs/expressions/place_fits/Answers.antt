use Rattle.std.proofs.Common.{sym, ap, ◌∙◌}
use Rattle.ckc_typed.specs.Walk.{written, written_at}
use Rattle.ckc_scopes.specs.code.Verdict.{verdict}
use Rattle.ckc_scopes.proofs.Verdicts.{verdict_unchecked}
use Rattle.ckc_scopes.proofs.expressions.place_fits.Goals as goal

pub returns-in_default-2 : goal.returns-in_default-2
returns-in_default-2 c = λ items places e.
    sym (ap (λ mode. verdict items (written_at mode places)) c.in_default.is-0 ∙ verdict_unchecked items (λ at. at) (λ at. written) places)
