use Rattle.std.proofs.Common.{◌≡◌, ◌≢◌, sym, ◌∙◌}
use Rattle.ckc_base.specs.declared.places.Pos.{Pos}
use Rattle.ckc_base.specs.declared.runtime_checks.Check.{Check}
use Rattle.ckc_base.specs.Traces.{Standing, Stopped, Stuck}
use Rattle.ckc_checks.proofs.laws.checks_stay.Goals as goal

never_both : (check : Check) (at : Pos) → Stopped check at ≢ Stuck
never_both check at e = cc

pub returns : goal.returns
returns c = λ p core input n check at bytes follows stops.
    let f = (follows input bytes).forward n (λ e. never_both check at (sym stops ∙ e)) in
    (f.0, f.2)
