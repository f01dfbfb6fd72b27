use Rattle.std.specs.Prelude.{Ok}
use Rattle.std.proofs.lemmas.Result.{err_from_is_err_and}
use Rattle.ckc_resolve.specs.Scoping.{names_of}
use Rattle.ckc_base.proofs.Ends.{stops}
use Rattle.ckc_resolve.proofs.top.names_of.Goals as goal

pub returns-in_err-note : goal.returns-in_err-note
returns-in_err-note c =
    let p = err_from_is_err_and c.from_residual.result c.from_residual.ensures.1 in
    stops (Ok tt) (Ok (names_of c.args.tree.now)) c.from_residual.result p.0 c.in_err-note.field-0.0 p.1 p.2 c.in_err-note.ensures.memory (λ f q. cc)
