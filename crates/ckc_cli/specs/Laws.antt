-- What the laws on causes say of the words, of the bytes that were fetched, and of the status.
use Rattle.std.specs.Prelude.{◌≡◌, ◌≢◌, ◌⊎◌, ℕ, Bool, true, false, List, Option, Some, Ok}
use Rattle.std.specs.FinMap as fin
use Rattle.ckc_outside.specs.Outside.{Files}
use Rattle.ckc_outside.specs.Given.{Printed}
use Rattle.ckc_base.specs.Traces.{Ended}
use Rattle.ckc_asm_listing.specs.Listing.{text_of}
use Rattle.ckc_rv.specs.Machine.{Parts}
use Rattle.ckc_source.specs.Code.{Program}
use Rattle.ckc_build.specs.Built.{Built}
use Rattle.ckc_machine.specs.declared.observed.Observed.{Observed}
use Rattle.ckc_machine.specs.declared.observed.Observed.TheVariants as observed
use Rattle.ckc_machine.specs.Runs.{Says}
use Rattle.ckc_cli_commands.specs.declared.status.Status.{Status}
use Rattle.ckc_cli_commands.specs.declared.status.Status.TheVariants as status
use Rattle.ckc_cli_commands.specs.World.{World, Untouched, untouched}
use Rattle.ckc_cli_commands.specs.Words.{Command, Build, Assemble}
use Rattle.ckc_cli_commands.specs.Outcomes.{Outcome, Refuses, IsBad, Keeps, Puts, PutsLine, Executes, Interprets, Samples}
use Rattle.ckc_cli_commands.specs.Commands.{fetches_of, Reads, Makes}
use Rattle.ckc_cli_commands.specs.Running.{Ran, ListedFront, status_of}
use Rattle.ckc_cli_commands.specs.Interpreting.{ShowsAs}
use Rattle.ckc_cli_commands.specs.Sampling.{alone, told_lines}
use Rattle.ckc_cli_commands.specs.Causes.{Each, HoldsEach, Kept, Caused, FailsOnce}
use Rattle.ckc_cli.specs.Objects.{Tells}

-- Something holds of every call of which its cause is told: of its words, of what is told before and after it, of
-- which objects were not touched, and of its status.
abbrev pub FromCause : (S O F : Type 0) → (List (List ℕ) → World → World → Untouched → Status → Type 0) → Type 0
FromCause S O F Holds =
    (words : List (List ℕ)) (before after : World) (input input' : S) (out out' : O) (store store' : F) (s : Status)
    → Caused words before after (untouched input input' out out' store store') s
    → Holds words before after (untouched input input' out out' store store') s

-- The same of every call of which it is told what failed, too, as `ccc` tells both.
abbrev pub FromCall : (S O F : Type 0) → (List (List ℕ) → World → World → Untouched → Status → Type 0) → Type 0
FromCall S O F Holds =
    FromCause S O F (λ words before after same s. FailsOnce before after s → Holds words before after same s)

-- ---- words

-- The words read a command, and the bytes under its names, or of which the store tells nothing, are such.
pub record Over (words : List (List ℕ)) (files : Option Files) (Are : Command → List (List ℕ) → Type 0) : Type 0 where
  pub command : Command
  pub reads : Reads words command
  pub bytes : List (List ℕ)
  pub holds : HoldsEach files (fetches_of command) bytes
  pub are : Are command bytes

-- The words read the command, and the store tells the bytes under its names.
pub record Given (words : List (List ℕ)) (files : Option Files) (command : Command) (bytes : List (List ℕ)) : Type 0 where
  pub reads : Reads words command
  pub told : Each (Tells files) (fetches_of command) bytes

-- the words are those of `build` or `asm`, which keep an image under the name
abbrev pub AsksToKeep : List (List ℕ) → List ℕ → Type 0
AsksToKeep words name = (text : List ℕ) × (Reads words (Build text name) ⊎ Reads words (Assemble text name))

-- ---- outcomes

-- Two outcomes are the same, but for which image is kept or run if a text has several.
abbrev pub Agrees : Outcome → Outcome → Type 0
Agrees (Refuses fault) (Refuses other) = fault ≡ other
Agrees (IsBad part) (IsBad other) = part ≡ other
Agrees (Keeps name bytes) (Keeps other image) = name ≡ other
Agrees (Puts text) (Puts other) = text ≡ other
Agrees (PutsLine line) (PutsLine other) = line ≡ other
Agrees (Executes parts limit) (Executes other most) = limit ≡ most
Agrees (Interprets program limit) (Interprets other most) = (program ≡ other) × (limit ≡ most)
Agrees (Samples parts size) (Samples other functions) = size ≡ functions
Agrees o other = ⊥

-- ---- what was done

-- an image is kept under a name
abbrev pub HasImage : Command → List (List ℕ) → Type 0
HasImage command bytes = (name : List ℕ) × (image : List ℕ) × Makes command bytes (Keeps name image)

-- a text is put, in some calls or as a line in one
abbrev pub PutsText : Command → List (List ℕ) → List ℕ → Type 0
PutsText command bytes text = Makes command bytes (Puts text) ⊎ Makes command bytes (PutsLine text)

-- the lines of a sample that ended are put
abbrev pub TellsSample : Command → List (List ℕ) → List ℕ → Type 0
TellsSample command bytes text =
    (parts : Parts) × (size : ℕ) × (value : ℕ) × Makes command bytes (Samples parts size)
    × ((alone parts).standing ≡ Ended value) × (text ≡ text_of (told_lines parts size value))

-- a text is put, or the lines of a sample
abbrev pub PutsSome : Command → List (List ℕ) → List ℕ → Type 0
PutsSome command bytes text = PutsText command bytes text ⊎ TellsSample command bytes text

-- an image was kept, or a text put
abbrev pub IsDone : World → World → Command → List (List ℕ) → Type 0
IsDone before after command bytes =
    ((name : List ℕ) × (image : List ℕ) × Makes command bytes (Keeps name image) × Kept before.store.files name image (Ok tt) after.store.files)
    ⊎ ((text : List ℕ) × PutsSome command bytes text × Printed before.output.written after.output.written text)

-- the machine of an image was run, and showed this
abbrev pub IsShown : World → World → Untouched → Observed → Command → List (List ℕ) → Type 0
IsShown before after same o command bytes =
    (parts : Parts) × (limit : ℕ) × Makes command bytes (Executes parts limit) × Ran parts limit before after same.input o

-- the meaning of a text was run, and showed the status
abbrev pub IsMeant : World → World → Status → Command → List (List ℕ) → Type 0
IsMeant before after s command bytes = (p : Program) × (limit : ℕ) × Makes command bytes (Interprets p limit) × ShowsAs p limit before after s

-- the machine of a sample was run by itself, and showed this
abbrev pub IsTried : Untouched → Observed → Command → List (List ℕ) → Type 0
IsTried same o command bytes =
    (parts : Parts) × (size : ℕ) × Makes command bytes (Samples parts size) × Says o (alone parts).standing × same.output × same.input

-- the machine of an image was run, or the meaning of a text, and showed this
abbrev pub IsRun : World → World → Untouched → Observed → Command → List (List ℕ) → Type 0
IsRun before after same o command bytes =
    IsShown before after same o command bytes ⊎ (IsMeant before after (status_of o) command bytes ⊎ IsTried same o command bytes)

-- the output failed in a run, or as a text was put
abbrev pub IsCutShort : World → World → Untouched → Command → List (List ℕ) → Type 0
IsCutShort before after same command bytes =
    IsRun before after same observed.WriteFault command bytes
    ⊎ ((text : List ℕ) × PutsSome command bytes text × ListedFront before.output.written after.output.written text)

-- The machine of an image of the text was run, and the status is what it showed.
abbrev pub RanBuilt : List ℕ → ℕ → World → World → Untouched → Status → Type 0
RanBuilt text limit before after same s =
    (parts : Parts) × (o : Observed) × Built text parts × (s ≡ status_of o) × Ran parts limit before after same.input o

-- If the files are told, every name but this one holds what it held.
abbrev pub KeepsOthers : List ℕ → Option Files → Option Files → Type 0
KeepsOthers name files files' =
    (here : Files) → files ≡ Some here → (kept : Files) × (files' ≡ Some kept) × ((other : List ℕ) → other ≢ name → fin.get kept other ≡ fin.get here other)

-- whether a status shows a run, or what came of a fault of its objects
abbrev pub shows_run : Status → Bool
shows_run (status.Ended value) = true
shows_run (status.Stopped check at) = true
shows_run status.Going = true
shows_run (status.MachineFault kind pc) = true
shows_run (status.Stuck at since) = true
shows_run status.ReadFault = true
shows_run status.WriteFault = true
shows_run s = false
