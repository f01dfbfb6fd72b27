use Rattle.std.proofs.Common.{refl}
use Rattle.ckc_cli_commands.specs.Words.{Command, Build, Assemble, Exec, Interp, Run, Show, Judge, Sample}
use Rattle.ckc_cli_commands.specs.declared.words.Command.TheVariants as command
use Rattle.ckc_cli_commands.specs.Commands.{a_text, an_image}
use Rattle.ckc_cli_commands.specs.World.{World, Untouched, world, streams, not_given, output_alone}
use Rattle.ckc_cli_dispatch.proofs.Narrowed.{obeyed_with, command_as, fetches_one}
use Rattle.ckc_cli_dispatch.proofs.obey.Goals as goal

pub returns-in-Build-clause-cause : goal.returns-in-Build-clause-cause
returns-in-Build-clause-cause g c = λ error error'.
    let input = c.args.input.now in
    let out = c.args.out.now in
    let w : World = world (g.S.Source.seen input) (g.O.Sink.seen out) error (g.F.Store.seen c.args.store.now) in
    let w' : World = world (g.S.Source.seen input) (g.O.Sink.seen out) error' (g.F.Store.seen c.build_text.new.store) in
    let wanted : Untouched = streams input input out out in
    let s = c.build_text.result in
    let is : Command = Build c.in-Build.text.now c.in-Build.image.now in
    command_as w w' wanted s is c.args.command (command.Build c.in-Build.text c.in-Build.image) c.in-Build.is refl
    (obeyed_with w w' not_given wanted s (λ _. refl) (λ _. refl) is (c.build_text.ensures.cause (g.S.Source.seen input) (g.O.Sink.seen out) error error'))

pub returns-in-Assemble-clause-cause : goal.returns-in-Assemble-clause-cause
returns-in-Assemble-clause-cause g c = λ error error'.
    let input = c.args.input.now in
    let out = c.args.out.now in
    let w : World = world (g.S.Source.seen input) (g.O.Sink.seen out) error (g.F.Store.seen c.args.store.now) in
    let w' : World = world (g.S.Source.seen input) (g.O.Sink.seen out) error' (g.F.Store.seen c.assemble_text.new.store) in
    let wanted : Untouched = streams input input out out in
    let s = c.assemble_text.result in
    let is : Command = Assemble c.in-Assemble.text.now c.in-Assemble.image.now in
    command_as w w' wanted s is c.args.command (command.Assemble c.in-Assemble.text c.in-Assemble.image) c.in-Assemble.is refl
    (obeyed_with w w' not_given wanted s (λ _. refl) (λ _. refl) is (c.assemble_text.ensures.cause (g.S.Source.seen input) (g.O.Sink.seen out) error error'))

pub returns-in-Exec-clause-cause : goal.returns-in-Exec-clause-cause
returns-in-Exec-clause-cause g c = λ error error'.
    let input = c.args.input.now in
    let out = c.args.out.now in
    let r = c.exec_text.new in
    let w : World = world (g.S.Source.seen input) (g.O.Sink.seen out) error (g.F.Store.seen c.args.store.now) in
    let w' : World = world (g.S.Source.seen r.input) (g.O.Sink.seen r.out) error' (g.F.Store.seen r.store) in
    command_as w w' (streams input r.input out r.out) c.exec_text.result (Exec c.in-Exec.text.now c.in-Exec.limit) c.args.command (command.Exec c.in-Exec.text c.in-Exec.limit) c.in-Exec.is refl (c.exec_text.ensures.cause error error')

pub returns-in-Interp-clause-cause : goal.returns-in-Interp-clause-cause
returns-in-Interp-clause-cause g c = λ error error'.
    let input = c.args.input.now in
    let out = c.args.out.now in
    let r = c.interp_text.new in
    let w : World = world (g.S.Source.seen input) (g.O.Sink.seen out) error (g.F.Store.seen c.args.store.now) in
    let w' : World = world (g.S.Source.seen r.input) (g.O.Sink.seen r.out) error' (g.F.Store.seen r.store) in
    command_as w w' (streams input r.input out r.out) c.interp_text.result (Interp c.in-Interp.text.now c.in-Interp.limit) c.args.command (command.Interp c.in-Interp.text c.in-Interp.limit) c.in-Interp.is refl (c.interp_text.ensures.cause error error')

pub returns-in-Run-clause-cause : goal.returns-in-Run-clause-cause
returns-in-Run-clause-cause g c = λ error error'.
    let input = c.args.input.now in
    let out = c.args.out.now in
    let r = c.run_image.new in
    let w : World = world (g.S.Source.seen input) (g.O.Sink.seen out) error (g.F.Store.seen c.args.store.now) in
    let w' : World = world (g.S.Source.seen r.input) (g.O.Sink.seen r.out) error' (g.F.Store.seen r.store) in
    command_as w w' (streams input r.input out r.out) c.run_image.result (Run c.in-Run.image.now c.in-Run.limit) c.args.command (command.Run c.in-Run.image c.in-Run.limit) c.in-Run.is refl (c.run_image.ensures.cause error error')

pub returns-in-List-clause-cause : goal.returns-in-List-clause-cause
returns-in-List-clause-cause g c = λ error error'.
    let input = c.args.input.now in
    let out = c.args.out.now in
    let out' = c.list_image.new.out in
    let w : World = world (g.S.Source.seen input) (g.O.Sink.seen out) error (g.F.Store.seen c.args.store.now) in
    let w' : World = world (g.S.Source.seen input) (g.O.Sink.seen out') error' (g.F.Store.seen c.list_image.new.store) in
    let wanted : Untouched = streams input input out out' in
    let s = c.list_image.result in
    let is : Command = Show c.in-List.image.now in
    command_as w w' wanted s is c.args.command (command.List c.in-List.image) c.in-List.is refl
    (obeyed_with w w' (output_alone out out') wanted s (λ e. e) (λ _. refl) is (c.list_image.ensures.cause (g.S.Source.seen input) error error'))

pub returns-in-Check-clause-cause : goal.returns-in-Check-clause-cause
returns-in-Check-clause-cause g c = λ error error'.
    let input = c.args.input.now in
    let out = c.args.out.now in
    let out' = c.check_text.new.out in
    let w : World = world (g.S.Source.seen input) (g.O.Sink.seen out) error (g.F.Store.seen c.args.store.now) in
    let w' : World = world (g.S.Source.seen input) (g.O.Sink.seen out') error' (g.F.Store.seen c.check_text.new.store) in
    let wanted : Untouched = streams input input out out' in
    let s = c.check_text.result in
    let is : Command = Judge c.in-Check.text.now in
    command_as w w' wanted s is c.args.command (command.Check c.in-Check.text) c.in-Check.is refl
    (obeyed_with w w' (output_alone out out') wanted s (λ e. e) (λ _. refl) is (c.check_text.ensures.cause (g.S.Source.seen input) error error'))

pub returns-in-Sample-clause-cause : goal.returns-in-Sample-clause-cause
returns-in-Sample-clause-cause g c = λ error error'.
    let input = c.args.input.now in
    let out = c.args.out.now in
    let out' = c.sample.new.out in
    let store = g.F.Store.seen c.args.store.now in
    let w : World = world (g.S.Source.seen input) (g.O.Sink.seen out) error store in
    let w' : World = world (g.S.Source.seen input) (g.O.Sink.seen out') error' store in
    let wanted : Untouched = streams input input out out' in
    let s = c.sample.result in
    let is : Command = Sample c.in-Sample.seed c.in-Sample.size in
    command_as w w' wanted s is c.args.command (command.Sample c.in-Sample.seed c.in-Sample.size) c.in-Sample.is refl
    (obeyed_with w w' (output_alone out out') wanted s (λ e. e) (λ _. refl) is (c.sample.ensures.cause (g.S.Source.seen input) error error' store))

pub returns-in-Build-clause-uncalled : goal.returns-in-Build-clause-uncalled
returns-in-Build-clause-uncalled g c = λ none. absurd (fetches_one (a_text c.in-Build.text.now) c.args.command (command.Build c.in-Build.text c.in-Build.image) c.in-Build.is refl none)

pub returns-in-Assemble-clause-uncalled : goal.returns-in-Assemble-clause-uncalled
returns-in-Assemble-clause-uncalled g c = λ none. absurd (fetches_one (a_text c.in-Assemble.text.now) c.args.command (command.Assemble c.in-Assemble.text c.in-Assemble.image) c.in-Assemble.is refl none)

pub returns-in-Exec-clause-uncalled : goal.returns-in-Exec-clause-uncalled
returns-in-Exec-clause-uncalled g c = λ none. absurd (fetches_one (a_text c.in-Exec.text.now) c.args.command (command.Exec c.in-Exec.text c.in-Exec.limit) c.in-Exec.is refl none)

pub returns-in-Interp-clause-uncalled : goal.returns-in-Interp-clause-uncalled
returns-in-Interp-clause-uncalled g c = λ none. absurd (fetches_one (a_text c.in-Interp.text.now) c.args.command (command.Interp c.in-Interp.text c.in-Interp.limit) c.in-Interp.is refl none)

pub returns-in-Run-clause-uncalled : goal.returns-in-Run-clause-uncalled
returns-in-Run-clause-uncalled g c = λ none. absurd (fetches_one (an_image c.in-Run.image.now) c.args.command (command.Run c.in-Run.image c.in-Run.limit) c.in-Run.is refl none)

pub returns-in-List-clause-uncalled : goal.returns-in-List-clause-uncalled
returns-in-List-clause-uncalled g c = λ none. absurd (fetches_one (an_image c.in-List.image.now) c.args.command (command.List c.in-List.image) c.in-List.is refl none)

pub returns-in-Check-clause-uncalled : goal.returns-in-Check-clause-uncalled
returns-in-Check-clause-uncalled g c = λ none. absurd (fetches_one (a_text c.in-Check.text.now) c.args.command (command.Check c.in-Check.text) c.in-Check.is refl none)
