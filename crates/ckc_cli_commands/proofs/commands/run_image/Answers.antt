use Rattle.std.proofs.Common.{◌≡◌, ℕ, List, [], ◌∷◌, inl, refl, subst, ◌∙◌}
use Rattle.ckc_cli_commands.specs.World.{World, Untouched, world, streams}
use Rattle.ckc_cli_commands.specs.Outcomes as outcome
use Rattle.ckc_cli_commands.specs.code.Running.{Ends, OverImage}
use Rattle.ckc_outside.specs.Outside.{Stored}
use Rattle.ckc_cli_commands.specs.Causes.{made, fetched, not_fetched}
use Rattle.ckc_cli_commands.proofs.Obeying.{over_limit, whole_of, run_came}
use Rattle.ckc_cli_commands.specs.Commands.{an_image}
use Rattle.ckc_cli_commands.proofs.commands.run_image.Goals as goal

pub returns-in-Ok-Longer-clause-cause : goal.returns-in-Ok-Longer-clause-cause
returns-in-Ok-Longer-clause-cause g c = λ error error'.
    let input = c.args.input.now in
    let out = c.args.out.now in
    let store = c.args.store.now in
    let before : Stored = g.F.Store.seen store in
    let after : Stored = g.F.Store.seen c.fetch.new.store in
    let p = over_limit c.in-Ok-Longer.field-0 c.args.image.now 33550452 before c.in-Ok-Longer.field-0-is c.in-Ok-Longer.ensures.fetches in
    fetched (p.0 ∷ []) c.fetch.ensures.asked (p.1, tt) (made (outcome.IsBad 3) (inl (p.2, refl)) (refl, record { unkept = c.fetch.ensures.only.unkept; put = refl; took = refl }))

pub returns-in-Ok-Whole-clause-cause : goal.returns-in-Ok-Whole-clause-cause
returns-in-Ok-Whole-clause-cause g c = λ error error'.
    let input = c.args.input.now in
    let out = c.args.out.now in
    let store = c.args.store.now in
    let before : Stored = g.F.Store.seen store in
    let after : Stored = g.F.Store.seen c.fetch.new.store in
    let w : World = world (g.S.Source.seen input) (g.O.Sink.seen out) error before in
    let w' : World = world (g.S.Source.seen c.run_bytes.new.input) (g.O.Sink.seen c.run_bytes.new.out) error' after in
    let p = whole_of c.in-Ok-Whole.field-0 c.in-Ok-Whole.bytes c.args.image.now 33550452 before c.in-Ok-Whole.field-0-is c.in-Ok-Whole.ensures.fetches in
    let left : Untouched = streams input c.run_bytes.new.input out c.run_bytes.new.out in
    let same : c.as_slice.result.now ≡ c.in-Ok-Whole.bytes = c.as_slice.ensures in
    fetched (c.in-Ok-Whole.bytes ∷ []) c.fetch.ensures.asked (p.0, tt)
    (run_came w w' left c.run_bytes.result c.args.image.now c.in-Ok-Whole.bytes c.args.limit p.1
    (subst (λ (b : List ℕ). OverImage b (λ f q. Ends q c.args.limit w w' left c.run_bytes.result) (left.output × left.input) c.run_bytes.result) same (c.run_bytes.ensures.over error error' before after)) c.fetch.ensures.only.unkept)

pub returns-in-Err-clause-cause : goal.returns-in-Err-clause-cause
returns-in-Err-clause-cause g c = λ error error'.
    not_fetched (an_image c.args.image.now ∷ []) [] refl c.fetch.ensures.asked c.in-Err.ensures.fetches (record { unkept = c.fetch.ensures.only.unkept; put = refl; took = refl })

pub returns-in-Ok-Longer-clause-stores : goal.returns-in-Ok-Longer-clause-stores
returns-in-Ok-Longer-clause-stores g c = c.in-Ok-Longer.ensures.stores

pub returns-in-Ok-Whole-clause-stores : goal.returns-in-Ok-Whole-clause-stores
returns-in-Ok-Whole-clause-stores g c = c.in-Ok-Whole.ensures.stores ∙ c.run_bytes.ensures.stores _
