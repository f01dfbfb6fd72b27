use Rattle.std.proofs.Common.{◌≡◌, drop}
use Rattle.ckc_syntax.specs.Inside.{listed, inside_each}
use Rattle.ckc_typed.specs.Walk.{spots_of_decl}
use Rattle.ckc_scopes.specs.code.Verdict.{verdict}
use Rattle.ckc_scopes.proofs.statements.decls_fit.Given as goal

-- what is left gives what the whole gives
abbrev pub invariant-loop-decl : goal.invariant-loop-decl
invariant-loop-decl l =
    verdict l.items (inside_each listed (spots_of_decl l.fn.mode) l.decls) ≡ verdict l.items (inside_each listed (spots_of_decl l.fn.mode) (drop l.decl-index l.decls))
