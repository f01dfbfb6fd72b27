use Rattle.std.proofs.Common.{◌≡◌, take}
use Rattle.ckc_resolve.specs.Heads.{member_scope}
use Rattle.ckc_resolve.proofs.heads.scope_of_members.Given as goal

abbrev pub invariant-loop-decl : goal.invariant-loop-decl
invariant-loop-decl l = l.all ≡ member_scope l.names (take l.decl-index l.decls)
