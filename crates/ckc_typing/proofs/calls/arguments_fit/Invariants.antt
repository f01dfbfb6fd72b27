use Rattle.std.proofs.Common.{◌≡◌, drop}
use Rattle.ckc_typed.specs.Expressions.{arguments_typed}
use Rattle.ckc_typing.proofs.calls.arguments_fit.Given as goal

-- the arguments so far are taken
abbrev pub invariant-loop-i : goal.invariant-loop-i
invariant-loop-i l = arguments_typed l.mode l.params l.args ≡ arguments_typed l.mode (drop l.i l.params) (drop l.i l.args)
