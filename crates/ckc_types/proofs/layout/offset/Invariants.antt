use Rattle.std.proofs.Common.{◌≡◌, ◌*◌, ◌≤◌, drop}
use Rattle.ckc_types.specs.Layout.{members_of, offset, start_of}
use Rattle.ckc_types.proofs.layout.offset.Given as goal

-- the member begins where it does among what is left, and each one so far takes at most 8 bytes with the gap before it
abbrev pub invariant-loop-m : goal.invariant-loop-m
invariant-loop-m l =
    (start_of l.fn.member l.end (drop l.m-index (members_of l.fn.structs l.fn.shape)) ≡ offset l.fn.structs l.fn.shape l.fn.member) × (l.end ≤ 8 * l.m-index)
