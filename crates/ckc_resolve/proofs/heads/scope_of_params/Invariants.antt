use Rattle.std.proofs.Common.{◌≡◌, take}
use Rattle.ckc_resolve.specs.Heads.{param_scope}
use Rattle.ckc_resolve.proofs.heads.scope_of_params.Given as goal

abbrev pub invariant-loop-decl : goal.invariant-loop-decl
invariant-loop-decl l = l.all ≡ param_scope (take l.decl-index l.decls)
