use Rattle.std.proofs.Common.{◌≡◌}
use Rattle.ckc_resolve.specs.Heads.{member_named, members_named}
use Rattle.ckc_base.proofs.Sequels.{behind, left}
use Rattle.ckc_resolve.proofs.heads.members_in_turn.Given as goal

abbrev pub invariant-loop-decl : goal.invariant-loop-decl
invariant-loop-decl l = members_named l.names l.all l.decls l.fn.before ≡ behind l.out (left (member_named l.names l.all) l.decls l.decl-index l.before)
