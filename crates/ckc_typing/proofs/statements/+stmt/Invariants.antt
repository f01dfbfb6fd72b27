use Rattle.std.proofs.Common.{◌≡◌, map}
use Rattle.ckc_typed.specs.Statements.{stmt_typed, all_in}
use Rattle.ckc_base.proofs.Turns.{ahead, judged}
use Rattle.ckc_typing.proofs.statements.+stmt.Given as goal

abbrev pub invariant-typed_stmts-loop-s : goal.invariant-typed_stmts-loop-s
invariant-typed_stmts-loop-s l =
    all_in l.mode l.looped (map (stmt_typed l.globals l.frame.variables l.frame.result) l.ss)
    ≡ ahead l.all (judged (λ s. stmt_typed l.globals l.frame.variables l.frame.result s l.mode l.looped) l.ss l.s-index)
