use Rattle.ckc_cli_commands.specs.Words.{bytes_of}
use Rattle.ckc_cli_commands.specs.World.{World, Untouched, world, untouched}
use Rattle.ckc_cli_commands.specs.Causes.{FailsOnce}
use Rattle.ckc_cli.proofs.Blame.{blame}
use Rattle.ckc_cli.proofs.Execs.{headline}
use Rattle.ckc_cli.proofs.Meant.{meaning}
use Rattle.ckc_cli.proofs.Checked.{checking}
use Rattle.ckc_cli.proofs.Sampling.{sampling, fetches_nothing}
use Rattle.ckc_cli.proofs.top.ccc.Goals as goal

pub returns-clause-cause : goal.returns-clause-cause
returns-clause-cause g c = c.asked-status.ensures.cause (g.E.Sink.seen c.args.err.now) (g.E.Sink.seen c.tell.new.err)

pub returns-clause-headline : goal.returns-clause-headline
returns-clause-headline g c = λ name limit reads.
    let error = g.E.Sink.seen c.args.err.now in
    let error' = g.E.Sink.seen c.tell.new.err in
    let r = c.asked-status.new in
    let w : World = world (g.S.Source.seen c.args.input.now) (g.O.Sink.seen c.args.out.now) error (g.F.Store.seen c.args.store.now) in
    let w' : World = world (g.S.Source.seen r.input) (g.O.Sink.seen r.out) error' (g.F.Store.seen r.store) in
    let fails : FailsOnce w w' c.asked-status.result = record { input = c.asked-status.ensures.reads; output = c.asked-status.ensures.writes; store = c.asked-status.ensures.stores } in
    let same : Untouched = untouched c.args.input.now r.input c.args.out.now r.out c.args.store.now r.store in
    headline (bytes_of c.args.words.now) w w' same c.asked-status.result (c.asked-status.ensures.cause error error') fails name limit reads

pub returns-clause-meaning : goal.returns-clause-meaning
returns-clause-meaning g c = λ name limit reads.
    let error = g.E.Sink.seen c.args.err.now in
    let error' = g.E.Sink.seen c.tell.new.err in
    let r = c.asked-status.new in
    let w : World = world (g.S.Source.seen c.args.input.now) (g.O.Sink.seen c.args.out.now) error (g.F.Store.seen c.args.store.now) in
    let w' : World = world (g.S.Source.seen r.input) (g.O.Sink.seen r.out) error' (g.F.Store.seen r.store) in
    let fails : FailsOnce w w' c.asked-status.result = record { input = c.asked-status.ensures.reads; output = c.asked-status.ensures.writes; store = c.asked-status.ensures.stores } in
    let same : Untouched = untouched c.args.input.now r.input c.args.out.now r.out c.args.store.now r.store in
    meaning (bytes_of c.args.words.now) w w' same name limit reads c.asked-status.result (c.asked-status.ensures.cause error error') fails

pub returns-clause-check : goal.returns-clause-check
returns-clause-check g c = λ name reads.
    let error = g.E.Sink.seen c.args.err.now in
    let error' = g.E.Sink.seen c.tell.new.err in
    let r = c.asked-status.new in
    let w : World = world (g.S.Source.seen c.args.input.now) (g.O.Sink.seen c.args.out.now) error (g.F.Store.seen c.args.store.now) in
    let w' : World = world (g.S.Source.seen r.input) (g.O.Sink.seen r.out) error' (g.F.Store.seen r.store) in
    let fails : FailsOnce w w' c.asked-status.result = record { input = c.asked-status.ensures.reads; output = c.asked-status.ensures.writes; store = c.asked-status.ensures.stores } in
    let same : Untouched = untouched c.args.input.now r.input c.args.out.now r.out c.args.store.now r.store in
    checking c.unchecked_code_is_to_blame.ensures.checked (bytes_of c.args.words.now) w w' same name reads c.asked-status.result (c.asked-status.ensures.cause error error') fails

pub returns-clause-sample : goal.returns-clause-sample
returns-clause-sample g c = λ seed size reads.
    let error = g.E.Sink.seen c.args.err.now in
    let error' = g.E.Sink.seen c.tell.new.err in
    let r = c.asked-status.new in
    let w : World = world (g.S.Source.seen c.args.input.now) (g.O.Sink.seen c.args.out.now) error (g.F.Store.seen c.args.store.now) in
    let w' : World = world (g.S.Source.seen r.input) (g.O.Sink.seen r.out) error' (g.F.Store.seen r.store) in
    let same : Untouched = untouched c.args.input.now r.input c.args.out.now r.out c.args.store.now r.store in
    let words = bytes_of c.args.words.now in
    let cause = c.asked-status.ensures.cause error error' in
    sampling words w w' same seed size reads c.asked-status.result cause
    (c.asked-status.ensures.uncalled (fetches_nothing words w w' same seed size reads c.asked-status.result cause))

pub returns-clause-blame : goal.returns-clause-blame
returns-clause-blame g c = λ name limit reads.
    let error = g.E.Sink.seen c.args.err.now in
    let error' = g.E.Sink.seen c.tell.new.err in
    let r = c.asked-status.new in
    let w : World = world (g.S.Source.seen c.args.input.now) (g.O.Sink.seen c.args.out.now) error (g.F.Store.seen c.args.store.now) in
    let w' : World = world (g.S.Source.seen r.input) (g.O.Sink.seen r.out) error' (g.F.Store.seen r.store) in
    let same : Untouched = untouched c.args.input.now r.input c.args.out.now r.out c.args.store.now r.store in
    let law = c.unchecked_code_is_to_blame.ensures in
    blame law.never_stuck (bytes_of c.args.words.now) w w' same c.asked-status.result (c.asked-status.ensures.cause error error') name limit reads

pub returns-clause-fails : goal.returns-clause-fails
returns-clause-fails g c = record { input = c.asked-status.ensures.reads; output = c.asked-status.ensures.writes; store = c.asked-status.ensures.stores }
