use Rattle.std.proofs.Common.{◌≡◌}
use Rattle.ckc_resolve.specs.Heads.{param_named, params_named}
use Rattle.ckc_base.proofs.Sequels.{behind, left}
use Rattle.ckc_resolve.proofs.heads.named_params.Given as goal

abbrev pub invariant-loop-decl : goal.invariant-loop-decl
invariant-loop-decl l = params_named l.names l.all l.decls l.fn.before ≡ behind l.out (left (param_named l.names l.all) l.decls l.decl-index l.before)
