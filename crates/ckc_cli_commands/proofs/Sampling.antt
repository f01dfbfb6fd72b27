-- What comes of a sample, from what its parts gave.
use Rattle.std.proofs.Common.{◌≡◌, ◌≢◌, ◌⊎◌, inl, inr, ℕ, List, [], Result, Ok, Err, refl, subst}
use Rattle.ckc_base.specs.declared.fault.Fault.{Fault}
use Rattle.ckc_base.specs.declared.fault.Fault.TheVariants as faults
use Rattle.ckc_base.specs.Phases.{Answers}
use Rattle.ckc_rv.specs.Machine.{Parts}
use Rattle.ckc_image.specs.declared.format.Format.{Format}
use Rattle.ckc_image.specs.declared.format.Format.TheVariants.{Elf}
use Rattle.ckc_image.proofs.Agreement.{never_bad}
use Rattle.ckc_outside.specs.Outside.{SeenSink, Stored}
use Rattle.ckc_outside.proofs.Giving.{after_none}
use Rattle.ckc_build.specs.Built.{Built, IsImage, building}
use Rattle.ckc_machine.specs.declared.observed.Observed.{Observed}
use Rattle.ckc_machine.specs.declared.observed.Observed.TheVariants as observed
use Rattle.ckc_machine.specs.Runs.{Says, read_faults, write_faults}
use Rattle.ckc_cli_sample.specs.Alone.{RunsAlone}
use Rattle.ckc_cli_sample.specs.Sample.{sample_lines, sample_text}
use Rattle.ckc_cli_commands.specs.declared.status.Status.{Status}
use Rattle.ckc_cli_commands.specs.World.{World, Untouched}
use Rattle.ckc_cli_commands.specs.Words.{Sample, usual_limit}
use Rattle.ckc_cli_commands.specs.Outcomes as outcome
use Rattle.ckc_cli_commands.specs.Commands.{Fetch}
use Rattle.ckc_cli_commands.specs.Running.{status_of}
use Rattle.ckc_cli_commands.specs.Causes as causes
use Rattle.ckc_cli_commands.specs.Causes.{Unkept, Idle, Asked, Came, Obeyed}
use Rattle.ckc_cli_commands.specs.Sampling.{alone, Lined, Sampled, with_lines, without_lines}
use Rattle.ckc_cli_commands.specs.code.Judging.{fault_status}
use Rattle.ckc_cli_commands.specs.code.Running.{OverImage, proper, bad}
use Rattle.ckc_cli_commands.specs.code.Sampling.{Tried, OfSample, refused, no_memory, built}
use Rattle.ckc_cli_commands.proofs.Obeying.{same_image}

-- ---- faults

pub no_read : (o : Observed) → o ≢ observed.ReadFault → (n : ℕ) → n ≡ read_faults o n
no_read (observed.Ended value) h n = refl
no_read (observed.Stopped check at) h n = refl
no_read observed.Going h n = refl
no_read (observed.Fault kind pc) h n = refl
no_read observed.ReadFault h n = absurd (h refl)
no_read observed.WriteFault h n = refl

pub no_write : (o : Observed) → o ≢ observed.WriteFault → (n : ℕ) → n ≡ write_faults o n
no_write (observed.Ended value) h n = refl
no_write (observed.Stopped check at) h n = refl
no_write observed.Going h n = refl
no_write (observed.Fault kind pc) h n = refl
no_write observed.ReadFault h n = refl
no_write observed.WriteFault h n = absurd (h refl)

-- ---- from a run to its cause

module _ (size : ℕ) (old new : SeenSink) (untouched : Type 0) (s : Status) where
  pub ended_told : (parts : Parts) (count value : ℕ) (o : Observed) → o ≡ observed.Ended value → RunsAlone parts usual_limit o count → Lined (sample_lines size count value) old new s
      → Sampled parts size old new untouched s
  ended_told parts count value o e ran lined =
      with_lines value (subst (λ (p : Observed). Says p (alone parts).standing) e ran.stands) (subst (λ (n : ℕ). Lined (sample_lines size n value) old new s) ran.put lined)

  pub else_shown : (parts : Parts) (count : ℕ) (o : Observed) → ((value : ℕ) → o ≢ observed.Ended value) → RunsAlone parts usual_limit o count → s ≡ status_of o → untouched → Sampled parts size old new untouched s
  else_shown parts count o h ran e u = without_lines o h ran.stands e u

  pub sample_faulted : (text : List ℕ) (fault : Fault) → Answers building text (Err fault) → s ≡ fault_status fault → untouched → OfSample text size old new untouched s
  sample_faulted text (faults.Refused refusal) h e u = refused refusal h e u
  sample_faulted text faults.Memory h e u = no_memory e u

  pub sample_built : (text image : List ℕ) (parts : Parts) → Built text parts → IsImage image parts → OverImage image (λ f p. Tried p size old new untouched s) untouched s → OfSample text size old new untouched s
  sample_built text image parts b i (proper g q j tried) = by_try tried
    where
      by_try : Tried q size old new untouched s → OfSample text size old new untouched s
      by_try (inl sampled) = built parts b (subst (λ (p : Parts). Sampled p size old new untouched s) (same_image g Elf image q parts j i) sampled)
      by_try (inr none) = no_memory none.0 none.1
  sample_built text image parts b i (bad k first e u) = absurd (never_bad Elf image parts.entry parts.code parts.initial i k first)

-- ---- from the cause to what the command does

pub unkept_same : (store : Stored) → Unkept store store
unkept_same store = record { files = refl; keeps = refl; kept = refl }

unasked : (store : Stored) → Asked [] store store
unasked store = record { count = after_none Fetch store.fetches; limit = refl }

module _ (seed size : ℕ) (before after : World) (same : Untouched) (s : Status) (took : same.input) (store : before.store ≡ after.store) where
  unkept : Unkept before.store after.store
  unkept = subst (λ (x : Stored). Unkept before.store x) store (unkept_same before.store)

  idle : same.output → Idle before after same
  idle u = record { unkept = unkept; put = u; took = took }

  came : OfSample (sample_text seed size) size before.output after.output same.output s → Came (Sample seed size) [] before after same s
  came (refused fault f e u) = causes.made (outcome.Refuses fault) f (e, idle u)
  came (no_memory e u) = causes.no_memory e (idle u)
  came (built parts b sampled) = causes.made (outcome.Samples parts size) (parts, b, refl) (sampled, unkept, took)

  pub sample_obeyed : OfSample (sample_text seed size) size before.output after.output same.output s → Obeyed (Sample seed size) before after same s
  sample_obeyed c = causes.fetched [] (subst (λ (x : Stored). Asked [] before.store x) store (unasked before.store)) tt (came c)
