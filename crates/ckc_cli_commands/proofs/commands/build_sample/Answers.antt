use Rattle.std.proofs.Common.{◌≡◌, ℕ, List, refl, sym, subst}
use Rattle.ckc_build.specs.Built.{IsImage}
use Rattle.ckc_cli_commands.proofs.Sampling.{sample_faulted, sample_built}
use Rattle.ckc_cli_commands.proofs.commands.build_sample.Goals as goal

pub returns-in-Err-clause-cause : goal.returns-in-Err-clause-cause
returns-in-Err-clause-cause g c =
    let out = c.args.out.now in
    sample_faulted c.args.size (g.O.Sink.seen out) (g.O.Sink.seen out) (out ≡ out) c.status_of.result c.args.text.now c.in-Err.fault c.in-Err.ensures.answers c.status_of.ensures.is refl

pub returns-in-Ok-clause-cause : goal.returns-in-Ok-clause-cause
returns-in-Ok-clause-cause g c =
    let out = c.args.out.now in
    let out' = c.sample_bytes.new.out in
    let b = c.in-Ok.ensures.answers in
    sample_built c.args.size (g.O.Sink.seen out) (g.O.Sink.seen out') (out' ≡ out) c.sample_bytes.result c.args.text.now c.as_slice.result.now b.0 b.1
    (subst (λ (i : List ℕ). IsImage i b.0) (sym c.as_slice.ensures.value) b.2) c.sample_bytes.ensures.over
