use Rattle.std.proofs.Common.{◌≡◌, ◌++◌, map, drop}
use Rattle.ckc_plain_barred.specs.Integers.{declared_integer}
use Rattle.ckc_plain_barred.proofs.integers.add_params.Given as goal

-- what is left gives what the whole gives
abbrev pub invariant-loop-d : goal.invariant-loop-d
invariant-loop-d l = l.fn.all ++ map declared_integer l.params ≡ l.all ++ map declared_integer (drop l.d-index l.params)
