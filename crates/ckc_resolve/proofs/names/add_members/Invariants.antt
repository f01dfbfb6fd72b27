use Rattle.std.proofs.Common.{◌≡◌, fold, take}
use Rattle.ckc_resolve.specs.Scoping.{with_member}
use Rattle.ckc_resolve.proofs.names.add_members.Given as goal

abbrev pub invariant-loop-member : goal.invariant-loop-member
invariant-loop-member l = l.all ≡ fold with_member l.fn.all (take l.member-index l.members)
