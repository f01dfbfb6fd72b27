use Rattle.std.proofs.Common.{sym, ◌∙◌, ap}
use Rattle.ckc_source.specs.States.{resumed}
use Rattle.ckc_interp.specs.code.Views.{leaving_of}
use Rattle.ckc_interp.proofs.Working.{resumed-nil}
use Rattle.ckc_interp.proofs.work.settle.Goals as goal

pub returns : goal.returns
returns c =
    c.in_default.ensures.empty
    ∙ (sym (resumed-nil (leaving_of c.fronts.how)) ∙ ap (resumed (leaving_of c.fronts.how)) (sym c.in_default.ensures.front)
    ∙ c.fronts.invariant)
