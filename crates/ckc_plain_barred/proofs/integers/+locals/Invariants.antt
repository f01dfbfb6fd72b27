use Rattle.std.proofs.Common.{◌≡◌, ◌++◌, map, drop}
use Rattle.ckc_plain_barred.specs.Integers.{declared_integer}
use Rattle.ckc_plain_barred.specs.code.Locals.{locals_of_each}
use Rattle.ckc_plain_barred.proofs.integers.+locals.Given as goal

-- what is left gives what the whole gives
abbrev pub invariant-add_each-loop-s : goal.invariant-add_each-loop-s
invariant-add_each-loop-s l = l.fn.all ++ map declared_integer (locals_of_each l.ss) ≡ l.all ++ map declared_integer (locals_of_each (drop l.s-index l.ss))
