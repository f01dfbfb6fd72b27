use Rattle.std.proofs.Common.{◌≡◌, ◌*◌, ◌≤◌, drop}
use Rattle.ckc_types.specs.Layout.{end_of}
use Rattle.ckc_types.proofs.layout.end_of.Given as goal

-- what is left ends where the whole does, and each member takes at most 8 bytes with the gap before it
abbrev pub invariant-loop-m : goal.invariant-loop-m
invariant-loop-m l = (end_of l.end (drop l.m-index l.members) ≡ end_of 0 l.members) × (l.end ≤ 8 * l.m-index)
