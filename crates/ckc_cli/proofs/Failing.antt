-- What a status says of the counts of faults.
use Rattle.std.proofs.Common.{◌≡◌, ap, ◌∙◌}
use Rattle.ckc_outside.specs.Outside.{Rose}
use Rattle.ckc_cli_calls.proofs.Reports.{rose_by_one}
use Rattle.ckc_cli_commands.specs.declared.status.Status.{Status}
use Rattle.ckc_cli_commands.specs.declared.status.Status.TheVariants as status
use Rattle.ckc_cli_commands.specs.World.{World}
use Rattle.ckc_cli_commands.specs.Causes.{FailsOnce, input_faults, output_faults, store_faults}

module _ (before after : World) (s : Status) (fails : FailsOnce before after s) where
  pub input_rose : s ≡ status.ReadFault → Rose before.input.faults after.input.faults
  input_rose e = rose_by_one before.input.faults after.input.faults (fails.input ∙ ap (λ (t : Status). input_faults t before.input.faults) e)

  pub output_rose : s ≡ status.WriteFault → Rose before.output.faults after.output.faults
  output_rose e = rose_by_one before.output.faults after.output.faults (fails.output ∙ ap (λ (t : Status). output_faults t before.output.faults) e)

  pub store_rose : s ≡ status.StoreFault → Rose before.store.faults after.store.faults
  store_rose e = rose_by_one before.store.faults after.store.faults (fails.store ∙ ap (λ (t : Status). store_faults t before.store.faults) e)
