use Rattle.std.proofs.Common.{◌≡◌, ◌≤◌, max, drop}
use Rattle.ckc_types.specs.Layout.{struct_align}
use Rattle.ckc_types.proofs.layout.struct_align.Given as goal

-- the greatest so far and of what is left is the greatest of all
abbrev pub invariant-loop-m : goal.invariant-loop-m
invariant-loop-m l = (max l.greatest (struct_align (drop l.m-index l.members)) ≡ struct_align l.members) × (1 ≤ l.greatest)
