use Rattle.std.proofs.Common.{ap, refl, Ok, Err}
use Rattle.ckc_outside.specs.declared.traits.StoreError as errors
use Rattle.ckc_outside.specs.declared.traits.StoreError.TheVariants as failure
use Rattle.ckc_cli_commands.specs.Causes.{made, kept, failed, no_memory}
use Rattle.ckc_cli_commands.specs.Outcomes as outcome
use Rattle.ckc_cli_commands.proofs.Obeying.{kept_once, faults_by}
use Rattle.ckc_cli_commands.proofs.commands.keep_image.Goals as goal

pub returns-in-Ok-clause-cause : goal.returns-in-Ok-clause-cause
returns-in-Ok-clause-cause g c = λ command fetched input output error error' before keeps only.
    let k = c.in-Ok.ensures in
    made (outcome.Keeps c.args.name.now c.args.image.now) keeps (
      kept refl
          (kept_once before (g.F.Store.seen c.args.store.now) (g.F.Store.seen c.keep_file.new.store) c.args.name.now c.args.image.now (Ok tt) (Ok tt) refl only.unkept k.kept.files k.kept.keeps k.kept.kept),
      tt,
      tt,
    )

pub returns-in-Err-Failed-clause-cause : goal.returns-in-Err-Failed-clause-cause
returns-in-Err-Failed-clause-cause g c = λ command fetched input output error error' before keeps only.
    let k = c.in-Err-Failed.ensures in
    let is = ap (λ (f : errors.StoreError). Err f) c.in-Err-Failed.field-0-is in
    let middle = g.F.Store.seen c.args.store.now in
    let after = g.F.Store.seen c.keep_file.new.store in
    made (outcome.Keeps c.args.name.now c.args.image.now) keeps (
      failed refl
          (kept_once before middle after c.args.name.now c.args.image.now (Err c.in-Err-Failed.field-0) (Err failure.Failed) is only.unkept k.kept.files k.kept.keeps k.kept.kept)
          (λ t. k.steady (only.steady t) is),
      tt,
      tt,
    )

pub returns-in-Err-Memory-clause-cause : goal.returns-in-Err-Memory-clause-cause
returns-in-Err-Memory-clause-cause g c = λ command fetched input output error error' before keeps only.
    let k = c.in-Err-Memory.ensures in
    let is = ap (λ (f : errors.StoreError). Err f) c.in-Err-Memory.field-0-is in
    made (outcome.Keeps c.args.name.now c.args.image.now) keeps (
      no_memory refl
          (kept_once before (g.F.Store.seen c.args.store.now) (g.F.Store.seen c.keep_file.new.store) c.args.name.now c.args.image.now (Err c.in-Err-Memory.field-0) (Err failure.Memory) is only.unkept k.kept.files k.kept.keeps k.kept.kept),
      tt,
      tt,
    )

pub returns-in-Err-Failed-clause-stores : goal.returns-in-Err-Failed-clause-stores
returns-in-Err-Failed-clause-stores g c = faults_by (Unit {0}) _ _ c.in-Err-Failed.field-0 failure.Failed c.in-Err-Failed.field-0-is c.in-Err-Failed.ensures.faults

pub returns-in-Err-Memory-clause-stores : goal.returns-in-Err-Memory-clause-stores
returns-in-Err-Memory-clause-stores g c = faults_by (Unit {0}) _ _ c.in-Err-Memory.field-0 failure.Memory c.in-Err-Memory.field-0-is c.in-Err-Memory.ensures.faults
