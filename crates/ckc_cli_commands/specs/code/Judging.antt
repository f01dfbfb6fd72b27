-- The status of a fault, and statuses that tell of no fault of an object.
use Rattle.std.specs.Prelude.{◌≡◌, ℕ}
use Rattle.ckc_base.specs.declared.fault.Fault.{Fault}
use Rattle.ckc_base.specs.declared.fault.Fault.TheVariants as fault
use Rattle.ckc_cli_commands.specs.declared.status.Status.{Status}
use Rattle.ckc_cli_commands.specs.declared.status.Status.TheVariants as status
use Rattle.ckc_cli_commands.specs.Causes.{input_faults, output_faults, store_faults}

abbrev pub fault_status : Fault → Status
fault_status (fault.Refused refusal) = status.Refused refusal
fault_status fault.Memory = status.Memory

-- the status tells of no fault of an object
pub record NoFault (s : Status) : Type 0 where
  pub reads : (n : ℕ) → n ≡ input_faults s n
  pub writes : (n : ℕ) → n ≡ output_faults s n
  pub stores : (n : ℕ) → n ≡ store_faults s n
