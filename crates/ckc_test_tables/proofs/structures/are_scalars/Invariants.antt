use Rattle.std.proofs.Common.{take}
use Rattle.std.specs.List.{All}
use Rattle.ckc_types.specs.Scalars.{IsScalar}
use Rattle.ckc_test_tables.proofs.structures.are_scalars.Given as goal

-- the members so far are scalars
abbrev pub invariant-loop-m : goal.invariant-loop-m
invariant-loop-m l = All (λ m. IsScalar m.ctype) (take l.m-index l.members)
