use Rattle.std.proofs.Common.{[], ◌∷◌, refl, ap, ◌∙◌}
use Rattle.ckc_cli_commands.specs.Words.{Assemble}
use Rattle.ckc_outside.specs.Outside.{Stored}
use Rattle.ckc_cli_commands.specs.World.{world, not_given}
use Rattle.ckc_cli_commands.specs.Outcomes as outcome
use Rattle.ckc_cli_commands.specs.Causes.{made, fetched, not_fetched, store_faults}
use Rattle.ckc_asm.specs.Faults.{too_long}
use Rattle.ckc_base.specs.Places.{at_start}
use Rattle.ckc_cli_commands.proofs.Obeying.{over_limit, whole_of, came_as}
use Rattle.ckc_cli_commands.proofs.Fetching.{asked_still}
use Rattle.ckc_cli_commands.specs.Commands.{a_text}
use Rattle.ckc_cli_commands.proofs.commands.assemble_text.Goals as goal

pub returns-in-Ok-Longer-clause-cause : goal.returns-in-Ok-Longer-clause-cause
returns-in-Ok-Longer-clause-cause g c = λ input output error error'.
    let store = c.args.store.now in
    let before : Stored = g.F.Store.seen store in
    let after : Stored = g.F.Store.seen c.fetch.new.store in
    let p = over_limit c.in-Ok-Longer.field-0 c.args.text.now 262144 before c.in-Ok-Longer.field-0-is c.in-Ok-Longer.ensures.fetches in
    fetched (p.0 ∷ []) c.fetch.ensures.asked (p.1, tt) (made (outcome.Refuses (at_start 201)) (too_long p.2 refl refl) (c.too_long.ensures.is, record { unkept = c.fetch.ensures.only.unkept; put = tt; took = tt }))

pub returns-in-Ok-Whole-clause-cause : goal.returns-in-Ok-Whole-clause-cause
returns-in-Ok-Whole-clause-cause g c = λ input output error error'.
    let store = c.args.store.now in
    let last = c.assemble_bytes.new.store in
    let before : Stored = g.F.Store.seen store in
    let middle : Stored = g.F.Store.seen c.fetch.new.store in
    let after : Stored = g.F.Store.seen last in
    let p = whole_of c.in-Ok-Whole.field-0 c.in-Ok-Whole.bytes c.args.text.now 262144 before c.in-Ok-Whole.field-0-is c.in-Ok-Whole.ensures.fetches in
    fetched (c.in-Ok-Whole.bytes ∷ [])
    (asked_still (a_text c.args.text.now ∷ []) before middle after c.fetch.ensures.asked c.assemble_bytes.ensures.unasked c.assemble_bytes.ensures.limited) (p.0, tt)
    (came_as (world input output error before) (world input output error' after) not_given c.assemble_bytes.result (Assemble c.args.text.now c.args.image.now) c.as_slice.result.now c.in-Ok-Whole.bytes c.as_slice.ensures
    (c.assemble_bytes.ensures.cause c.args.text.now input output error error' before c.fetch.ensures.only))

pub returns-in-Err-clause-cause : goal.returns-in-Err-clause-cause
returns-in-Err-clause-cause g c = λ input output error error'.
    not_fetched (a_text c.args.text.now ∷ []) [] refl c.fetch.ensures.asked c.in-Err.ensures.fetches (record { unkept = c.fetch.ensures.only.unkept; put = tt; took = tt })

pub returns-in-Ok-Longer-clause-stores : goal.returns-in-Ok-Longer-clause-stores
returns-in-Ok-Longer-clause-stores g c = c.in-Ok-Longer.ensures.stores ∙ c.too_long.ensures.none.stores _

pub returns-in-Ok-Whole-clause-stores : goal.returns-in-Ok-Whole-clause-stores
returns-in-Ok-Whole-clause-stores g c = c.assemble_bytes.ensures.stores ∙ ap (store_faults c.assemble_bytes.result) c.in-Ok-Whole.ensures.stores
