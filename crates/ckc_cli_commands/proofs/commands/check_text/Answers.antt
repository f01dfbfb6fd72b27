use Rattle.std.proofs.Common.{[], ◌∷◌, inl, refl, ◌∙◌}
use Rattle.ckc_cli_commands.specs.Words.{Judge}
use Rattle.ckc_cli_commands.specs.World.{world, output_alone}
use Rattle.ckc_cli_commands.specs.Outcomes as outcome
use Rattle.ckc_outside.specs.Outside.{Stored}
use Rattle.ckc_cli_commands.specs.Causes.{made, fetched, not_fetched}
use Rattle.ckc_base.specs.Places.{at_start}
use Rattle.ckc_cli_commands.proofs.Obeying.{over_limit, whole_of, came_as}
use Rattle.ckc_cli_commands.specs.Commands.{a_text}
use Rattle.ckc_cli_commands.proofs.commands.check_text.Goals as goal

pub returns-in-Ok-Longer-clause-cause : goal.returns-in-Ok-Longer-clause-cause
returns-in-Ok-Longer-clause-cause g c = λ input error error'.
    let before : Stored = g.F.Store.seen c.args.store.now in
    let after : Stored = g.F.Store.seen c.fetch.new.store in
    let p = over_limit c.in-Ok-Longer.field-0 c.args.text.now 262144 before c.in-Ok-Longer.field-0-is c.in-Ok-Longer.ensures.fetches in
    fetched (p.0 ∷ []) c.fetch.ensures.asked (p.1, tt) (made (outcome.Refuses (at_start 201)) (inl (inl (inl (inl (p.2, refl))))) (c.too_long.ensures.is, record { unkept = c.fetch.ensures.only.unkept; put = refl; took = tt }))

pub returns-in-Ok-Whole-clause-cause : goal.returns-in-Ok-Whole-clause-cause
returns-in-Ok-Whole-clause-cause g c = λ input error error'.
    let out = c.args.out.now in
    let out' = c.check_bytes.new.out in
    let before : Stored = g.F.Store.seen c.args.store.now in
    let after : Stored = g.F.Store.seen c.fetch.new.store in
    let w = world input (g.O.Sink.seen out) error before in
    let w' = world input (g.O.Sink.seen out') error' after in
    let p = whole_of c.in-Ok-Whole.field-0 c.in-Ok-Whole.bytes c.args.text.now 262144 before c.in-Ok-Whole.field-0-is c.in-Ok-Whole.ensures.fetches in
    fetched (c.in-Ok-Whole.bytes ∷ []) c.fetch.ensures.asked (p.0, tt)
    (came_as w w' (output_alone out out') c.check_bytes.result (Judge c.args.text.now) c.as_slice.result.now c.in-Ok-Whole.bytes c.as_slice.ensures
    (c.check_bytes.ensures.cause c.args.text.now input error error' before after c.fetch.ensures.only.unkept))

pub returns-in-Err-clause-cause : goal.returns-in-Err-clause-cause
returns-in-Err-clause-cause g c = λ input error error'.
    not_fetched (a_text c.args.text.now ∷ []) [] refl c.fetch.ensures.asked c.in-Err.ensures.fetches (record { unkept = c.fetch.ensures.only.unkept; put = refl; took = tt })

pub returns-in-Ok-Longer-clause-stores : goal.returns-in-Ok-Longer-clause-stores
returns-in-Ok-Longer-clause-stores g c = c.in-Ok-Longer.ensures.stores ∙ c.too_long.ensures.none.stores _

pub returns-in-Ok-Whole-clause-stores : goal.returns-in-Ok-Whole-clause-stores
returns-in-Ok-Whole-clause-stores g c = c.in-Ok-Whole.ensures.stores ∙ c.check_bytes.ensures.stores _
