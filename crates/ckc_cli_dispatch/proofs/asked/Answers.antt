use Rattle.ckc_cli_commands.specs.Commanded.{command_is}
use Rattle.ckc_cli_commands.specs.World.{world, streams, untouched}
use Rattle.ckc_cli_commands.specs.Causes.{obeyed}
use Rattle.ckc_cli_dispatch.proofs.Narrowed.{obeyed_with}
use Rattle.ckc_cli_dispatch.proofs.asked.Goals as goal

pub returns-in-Some-clause-cause : goal.returns-in-Some-clause-cause
returns-in-Some-clause-cause g c = λ error error'.
    let r = c.obey.new in
    let w = world (g.S.Source.seen c.args.input.now) (g.O.Sink.seen c.args.out.now) error (g.F.Store.seen c.args.store.now) in
    let w' = world (g.S.Source.seen r.input) (g.O.Sink.seen r.out) error' (g.F.Store.seen r.store) in
    let given = streams c.args.input.now r.input c.args.out.now r.out in
    let wanted = untouched c.args.input.now r.input c.args.out.now r.out c.args.store.now r.store in
    obeyed (command_is c.in-Some.command) c.in-Some.ensures
    (obeyed_with w w' given wanted c.obey.result (λ e. e) (λ e. e) (command_is c.in-Some.command) (c.obey.ensures.cause error error'))

pub returns-in-Some-clause-uncalled : goal.returns-in-Some-clause-uncalled
returns-in-Some-clause-uncalled g c = λ none. c.obey.ensures.uncalled (none (command_is c.in-Some.command) c.in-Some.ensures)
