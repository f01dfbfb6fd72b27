use Rattle.std.proofs.Common.{sym, subst, refl, List, [], ◌∷◌, ℕ}
use Rattle.ckc_cli_commands.specs.Words.{Build}
use Rattle.ckc_build.specs.Built.{building, IsImage}
use Rattle.ckc_cli_commands.specs.World.{World, world, not_given}
use Rattle.ckc_cli_commands.proofs.Obeying.{faulted}
use Rattle.ckc_cli_commands.proofs.commands.build_bytes.Goals as goal

pub returns-in-Err-clause-cause : goal.returns-in-Err-clause-cause
returns-in-Err-clause-cause g c = λ text input output error error' before only.
    let w : World = world input output error before in
    let w' : World = world input output error' (g.F.Store.seen c.args.store.now) in
    faulted w w' not_given c.status_of.result building (Build text c.args.image.now) c.args.bytes.now c.in-Err.fault (λ r f. f) c.in-Err.ensures.answers c.status_of.ensures.is
    (record { unkept = only.unkept; put = tt; took = tt })

pub returns-in-Ok-clause-cause : goal.returns-in-Ok-clause-cause
returns-in-Ok-clause-cause g c = λ text input output error error' before only.
    let b = c.in-Ok.ensures.answers in
    c.keep_image.ensures.cause (Build text c.args.image.now) (c.args.bytes.now ∷ []) input output error error' before
    (c.as_slice.result.now, (b.0, b.1, subst (λ (l : List ℕ). IsImage l b.0) (sym c.as_slice.ensures.value) b.2), refl) only
