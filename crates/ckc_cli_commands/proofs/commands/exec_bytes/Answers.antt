use Rattle.std.proofs.Common.{ℕ, List, refl, sym, subst}
use Rattle.ckc_build.specs.Built.{building, IsImage}
use Rattle.ckc_cli_commands.specs.Words.{Exec}
use Rattle.ckc_cli_commands.specs.World.{World, world, streams}
use Rattle.ckc_cli_commands.proofs.Obeying.{faulted, exec_came}
use Rattle.ckc_cli_commands.proofs.commands.exec_bytes.Goals as goal

pub returns-in-Err-clause-cause : goal.returns-in-Err-clause-cause
returns-in-Err-clause-cause g c = λ text error error' before after unkept.
    let input = c.args.input.now in
    let out = c.args.out.now in
    let w : World = world (g.S.Source.seen input) (g.O.Sink.seen out) error before in
    let w' : World = world (g.S.Source.seen input) (g.O.Sink.seen out) error' after in
    faulted w w' (streams input input out out) c.status_of.result building (Exec text c.args.limit) c.args.bytes.now c.in-Err.fault (λ r f. f) c.in-Err.ensures.answers c.status_of.ensures.is
    (record { unkept = unkept; put = refl; took = refl })

pub returns-in-Ok-clause-cause : goal.returns-in-Ok-clause-cause
returns-in-Ok-clause-cause g c = λ text error error' before after unkept.
    let input = c.args.input.now in
    let out = c.args.out.now in
    let w : World = world (g.S.Source.seen input) (g.O.Sink.seen out) error before in
    let w' : World = world (g.S.Source.seen c.run_bytes.new.input) (g.O.Sink.seen c.run_bytes.new.out) error' after in
    let b = c.in-Ok.ensures.answers in
    exec_came w w' (streams input c.run_bytes.new.input out c.run_bytes.new.out) c.run_bytes.result text c.args.bytes.now c.as_slice.result.now c.args.limit b.0 b.1
    (subst (λ (i : List ℕ). IsImage i b.0) (sym c.as_slice.ensures.value) b.2) (c.run_bytes.ensures.over error error' before after) unkept
