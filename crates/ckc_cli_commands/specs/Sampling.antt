-- What comes of the run of a sample.
use Rattle.std.specs.Prelude.{◌≡◌, ◌≢◌, ◌≤◌, ℕ, List, [], length}
use Rattle.ckc_base.specs.Traces.{Event, Showing, Ended, output}
use Rattle.ckc_outside.specs.Outside.{SeenSink, Rose}
use Rattle.ckc_outside.specs.Given.{Printed}
use Rattle.ckc_asm_listing.specs.Listing.{text_of}
use Rattle.ckc_asm_listing.specs.Putting.{many_more}
use Rattle.ckc_rv.specs.Machine.{Parts, machine}
use Rattle.ckc_machine.specs.declared.observed.Observed.{Observed}
use Rattle.ckc_machine.specs.declared.observed.Observed.TheVariants as observed
use Rattle.ckc_machine.specs.Runs.{Says}
use Rattle.ckc_cli_sample.specs.Sample.{sample_lines}
use Rattle.ckc_cli_commands.specs.declared.status.Status.{Status}
use Rattle.ckc_cli_commands.specs.declared.status.Status.TheVariants as status
use Rattle.ckc_cli_commands.specs.Words.{usual_limit}
use Rattle.ckc_cli_commands.specs.Running.{ListedFront, status_of}

-- what the machine of the parts shows that is given no input, within the usual limit of instructions
abbrev pub alone : Parts → Showing Event
alone parts = machine parts [] usual_limit

-- the lines that tell of it if it ended with a value
abbrev pub told_lines : Parts → ℕ → ℕ → List (List ℕ)
told_lines parts size value = sample_lines size (length (output (alone parts).trace)) value

-- What comes of putting lines, one call for each: all were put, or the output failed at one of them and was called no more.
pub data Lined (lines : List (List ℕ)) (old new : SeenSink) (s : Status) : Type 0 where
  all_lines : s ≡ status.Done → Printed old.written new.written (text_of lines) → new.puts ≡ many_more (length lines) old.puts
      → Lined lines old new s
  some_lines : (k : ℕ) → k ≤ length lines → s ≡ status.WriteFault → Rose old.faults new.faults
      → ListedFront old.written new.written (text_of lines) → new.puts ≡ many_more k old.puts → Lined lines old new s

-- What comes of running the machine of a sample: if it ends, lines tell of it. Else the status is what it shows, and the
-- output is not touched.
pub data Sampled (parts : Parts) (size : ℕ) (old new : SeenSink) (untouched : Type 0) (s : Status) : Type 0 where
  with_lines : (value : ℕ) → (alone parts).standing ≡ Ended value → Lined (told_lines parts size value) old new s
      → Sampled parts size old new untouched s
  without_lines : (o : Observed) → ((value : ℕ) → o ≢ observed.Ended value) → Says o (alone parts).standing
      → s ≡ status_of o → untouched → Sampled parts size old new untouched s
