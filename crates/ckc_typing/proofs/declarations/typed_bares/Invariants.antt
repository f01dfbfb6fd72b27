use Rattle.std.proofs.Common.{◌≡◌}
use Rattle.ckc_typed.specs.Declarations.{bare_typed, bares_typed}
use Rattle.ckc_base.proofs.Turns.{ahead, judged}
use Rattle.ckc_typing.proofs.declarations.typed_bares.Given as goal

abbrev pub invariant-loop-d : goal.invariant-loop-d
invariant-loop-d l = bares_typed l.globals l.variables l.mode l.ds ≡ ahead l.all (judged (bare_typed l.globals l.variables l.mode) l.ds l.d-index)
