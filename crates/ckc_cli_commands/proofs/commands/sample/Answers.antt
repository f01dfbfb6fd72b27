use Rattle.std.proofs.Common.{◌≡◌, ℕ, List, refl, subst, ◌∙◌}
use Rattle.ckc_cli_commands.specs.World.{World, world, output_alone}
use Rattle.ckc_cli_commands.specs.code.Sampling.{OfSample, no_memory}
use Rattle.ckc_cli_commands.proofs.Sampling.{sample_obeyed}
use Rattle.ckc_cli_commands.proofs.commands.sample.Goals as goal

pub returns-in-Err-clause-cause : goal.returns-in-Err-clause-cause
returns-in-Err-clause-cause g c = λ input error error' store.
    let out = c.args.out.now in
    let w : World = world input (g.O.Sink.seen out) error store in
    let w' : World = world input (g.O.Sink.seen out) error' store in
    sample_obeyed c.args.seed c.args.size w w' (output_alone out out) _ tt refl (no_memory refl refl)

pub returns-in-Ok-clause-cause : goal.returns-in-Ok-clause-cause
returns-in-Ok-clause-cause g c = λ input error error' store.
    let out = c.args.out.now in
    let out' = c.build_sample.new.out in
    let w : World = world input (g.O.Sink.seen out) error store in
    let w' : World = world input (g.O.Sink.seen out') error' store in
    sample_obeyed c.args.seed c.args.size w w' (output_alone out out') c.build_sample.result tt refl
    (subst (λ (t : List ℕ). OfSample t c.args.size (g.O.Sink.seen out) (g.O.Sink.seen out') (out' ≡ out) c.build_sample.result) (c.as_slice.ensures.value ∙ c.in-Ok.ensures) c.build_sample.ensures.cause)
