use Rattle.std.proofs.Common.{◌≡◌, ◌<◌, ◌≤◌, ◌++◌, length, map, drop}
use Rattle.ckc_source.specs.Code.{stmt_of}
use Rattle.ckc_build_elaborate.specs.code.Statements.{stmts_elaborated}
use Rattle.ckc_build_elaborate.proofs.statements.+stmt.Given as goal

-- after the last statement no number is known, and nothing is left
abbrev pub invariant-stmts-loop-k : goal.invariant-stmts-loop-k
invariant-stmts-loop-k l = record {
  left : l.k < length l.ss → map stmt_of l.all.items ++ stmts_elaborated l.typed l.locals l.gives l.next (drop l.k l.ss)
      ≡ stmts_elaborated l.typed l.locals l.gives l.first l.ss;
  done : length l.ss ≤ l.k → map stmt_of l.all.items ≡ stmts_elaborated l.typed l.locals l.gives l.first l.ss;
}
