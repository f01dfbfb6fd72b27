use Rattle.std.proofs.Common.{◌≡◌, ◌++◌, map, drop}
use Rattle.ckc_typed.specs.Interfaces.{is_interface}
use Rattle.ckc_bounds.proofs.heads.interfaces_in.Given as goal

abbrev pub invariant-loop-d : goal.invariant-loop-d
invariant-loop-d l = map is_interface l.ds ≡ l.all ++ map is_interface (drop l.d-index l.ds)
