use Rattle.std.proofs.Common.{◌≡◌}
use Rattle.ckc_resolve.specs.Statements.{stmt_named, stmts_named}
use Rattle.ckc_base.proofs.Sequels.{behind, left}
use Rattle.ckc_resolve.proofs.statements.+stmt.Given as goal

abbrev pub invariant-named_stmts-loop-stmt : goal.invariant-named_stmts-loop-stmt
invariant-named_stmts-loop-stmt l = stmts_named l.names l.stmts l.fn.scopes ≡ behind l.all (left (stmt_named l.names) l.stmts l.stmt-index l.scopes)
