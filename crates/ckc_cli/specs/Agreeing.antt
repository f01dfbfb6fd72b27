-- What `exec` shows, beside the meaning of its text.
use Rattle.std.specs.Prelude.{◌≡◌, ◌≢◌, ◌⊎◌, ℕ, ◌+◌, ◌*◌, ◌≤◌, List, ◌++◌, Option, Some, IsSome}
use Rattle.ckc_base.specs.declared.places.Pos.{Pos}
use Rattle.ckc_base.specs.declared.runtime_checks.Check.{Check}
use Rattle.ckc_base.specs.Traces.{Standing, Ended, Stopped, Stuck, output}
use Rattle.ckc_base.specs.Follows.{IsPrefix}
use Rattle.ckc_outside.specs.Given.{taken, Printed, OverAny, WhereTold}
use Rattle.ckc_machine.specs.declared.observed.FaultKind.{FaultKind}
use Rattle.ckc_source.specs.Code.{Program}
use Rattle.ckc_source.specs.LaidOut.{AreBytes}
use Rattle.ckc_source.specs.Source.{source, unchecked_since}
use Rattle.ckc_build.specs.Meanings.{HasMeaning, IsWhollyChecked}
use Rattle.ckc_build.specs.Built.{most_for_a_step}
use Rattle.ckc_cli_commands.specs.declared.status.Status.{Status}
use Rattle.ckc_cli_commands.specs.declared.status.Status.TheVariants as status
use Rattle.ckc_cli_commands.specs.World.{World}
use Rattle.ckc_cli.specs.Objects.{Tells, OfFile, AllIsFine}
use Rattle.ckc_cli.specs.Meaning.{standing_after}

-- ---- inputs

-- If the input is one of bytes, something holds of what was left of it before and of what is left then: over what
-- the input tells to be left, and over any input, whatever may come after the bytes that it gave.
pub record OverInput (before after : World) (Holds : List ℕ → List ℕ → Type 0) : Type 0 where
  pub told : WhereTold before.input.left after.input.left (λ given left. AreBytes given → Holds given left)
  pub any : OverAny before.input after.input (λ given left. AreBytes given → Holds given left)

-- something holds of the bytes that the input tells to be left, or of any
abbrev pub OfInput : Option (List ℕ) → (List ℕ → Type 0) → Type 0
OfInput told Holds =
    ((given : List ℕ) × (told ≡ Some given) × AreBytes given × Holds given) ⊎ ((given : List ℕ) → AreBytes given → Holds given)

-- ---- what was put and taken

-- if what was written is told, what came after it is a front of these bytes
abbrev pub PrintedPart : Option (List ℕ) → Option (List ℕ) → List ℕ → Type 0
PrintedPart old new bytes = (put : List ℕ) × IsPrefix put bytes × Printed old new put

-- if what was written is told, these bytes are a front of what came after it
abbrev pub PrintedFirst : Option (List ℕ) → Option (List ℕ) → List ℕ → Type 0
PrintedFirst old new bytes = (put : List ℕ) × IsPrefix bytes put × Printed old new put

-- a front of these bytes was taken, and this is left
abbrev pub TookPart : List ℕ → List ℕ → List ℕ → Type 0
TookPart given left bytes = (got : List ℕ) × IsPrefix got bytes × (given ≡ got ++ left)

-- ---- what the meaning comes to

-- With this input the program of a text, which is not wholly checked, comes to a step that has no meaning, in unchecked
-- code or after a step in it.
abbrev pub ComesToBeStuck : List ℕ → Program → List ℕ → Type 0
ComesToBeStuck text p given =
    (n : ℕ) × (standing_after p given n ≡ Stuck) × IsSome (unchecked_since p given n) × ¬ IsWhollyChecked text

-- With this input the program comes to stand so, and by then has put what was put and taken what was taken.
pub record ComesTo (p : Program) (stands : Standing) (old new : Option (List ℕ)) (given left : List ℕ) : Type 0 where
  pub steps : ℕ
  pub stands_so : standing_after p given steps ≡ stands
  pub put : Printed old new (output (source p given steps).trace)
  pub took : given ≡ taken (source p given steps).trace ++ left

-- With this input the program comes to have put what was put and taken what was taken, and perhaps more.
pub record ComesBy (p : Program) (old new : Option (List ℕ)) (given left : List ℕ) : Type 0 where
  pub steps : ℕ
  pub put : PrintedPart old new (output (source p given steps).trace)
  pub took : TookPart given left (taken (source p given steps).trace)

-- The text has a meaning, which comes to stand so, with the bytes that were put and taken, or to be stuck.
abbrev pub StandsAsMeant : Standing → World → World → List ℕ → Type 0
StandsAsMeant stands before after text =
    (p : Program) × HasMeaning text p × OverInput before after (λ given left. ComesToBeStuck text p given ⊎ ComesTo p stands before.output.written after.output.written given left)

-- The text has a meaning, which comes to have put what was put and taken what was taken, and perhaps more, or to be
-- stuck.
abbrev pub GoesAsMeant : World → World → List ℕ → Type 0
GoesAsMeant before after text =
    (p : Program) × HasMeaning text p × OverInput before after (λ given left. ComesToBeStuck text p given ⊎ ComesBy p before.output.written after.output.written given left)

-- The text has a meaning, which comes to be stuck.
abbrev pub IsStuckAsMeant : World → World → List ℕ → Type 0
IsStuckAsMeant before after text = (p : Program) × HasMeaning text p × OverInput before after (λ given left. ComesToBeStuck text p given)

-- ---- in time

-- as many instructions as the machine needs for n steps
abbrev pub enough : ℕ → ℕ
enough n = most_for_a_step * (n + 1)

-- with this input the program comes to stand so in time
abbrev pub StandsInTime : Program → ℕ → Standing → List ℕ → Type 0
StandsInTime p limit stands given = (n : ℕ) × (enough n ≤ limit) × (standing_after p given n ≡ stands)

-- with this input the program has put these bytes in time, and is not stuck
abbrev pub PutsInTime : Program → ℕ → List ℕ → List ℕ → Type 0
PutsInTime p limit bytes given =
    (n : ℕ) × (enough n ≤ limit) × (standing_after p given n ≢ Stuck) × (output (source p given n).trace ≡ bytes)

-- ---- the headline

-- `exec` with a name and a limit ends, and stops at a check, only as the meaning of the text does, with the bytes that
-- it puts and takes, or if the meaning comes to be stuck. If the limit is reached, the bytes that were put and
-- taken are a front of those that the meaning puts and takes. A fault of the machine is shown only if the meaning
-- comes to be stuck. If no object fails, it always ends and stops as the meaning does in time, and what the meaning
-- puts in time was put, but for want of memory.
pub record Headline (name : List ℕ) (limit : ℕ) (before after : World) (s : Status) : Type 0 where
  pub ended : (value : ℕ) → s ≡ status.Ended value → OfFile before.store.files name (StandsAsMeant (Ended value) before after)
  pub ended_always : (value : ℕ) (text : List ℕ) (p : Program) → Tells before.store.files name text → HasMeaning text p → AllIsFine before after
      → OfInput before.input.left (StandsInTime p limit (Ended value)) → (s ≡ status.Ended value) ⊎ (s ≡ status.Memory)
  pub stopped : (check : Check) (at : Pos) → s ≡ status.Stopped check at → OfFile before.store.files name (StandsAsMeant (Stopped check at) before after)
  pub stopped_always : (check : Check) (at : Pos) (text : List ℕ) (p : Program) → Tells before.store.files name text → HasMeaning text p → AllIsFine before after
      → OfInput before.input.left (StandsInTime p limit (Stopped check at)) → (s ≡ status.Stopped check at) ⊎ (s ≡ status.Memory)
  pub going : s ≡ status.Going → OfFile before.store.files name (GoesAsMeant before after)
  pub put_always : (bytes text : List ℕ) (p : Program) → Tells before.store.files name text → HasMeaning text p → AllIsFine before after
      → OfInput before.input.left (PutsInTime p limit bytes) → PrintedFirst before.output.written after.output.written bytes ⊎ (s ≡ status.Memory)
  pub faultless : (kind : FaultKind) (pc : ℕ) → s ≡ status.MachineFault kind pc → OfFile before.store.files name (IsStuckAsMeant before after)
