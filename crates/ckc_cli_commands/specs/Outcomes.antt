-- What a command makes of the bytes that it fetched.
use Rattle.std.specs.Prelude.{ℕ, List}
use Rattle.ckc_base.specs.declared.places.Refusal.{Refusal}
use Rattle.ckc_rv.specs.Machine.{Parts}
use Rattle.ckc_source.specs.Code.{Program}

-- A text is refused, bytes are no image and this is the part that disagrees, bytes are kept under a name, a text is
-- put, a line is put in one call, a machine is run within a limit of instructions, or a program within a limit of steps,
-- or the machine of a sample of so many functions is run by itself and lines tell of it.
pub data Outcome : Type 0 where
  Refuses : (fault : Refusal) → Outcome
  IsBad : (part : ℕ) → Outcome
  Keeps : (name bytes : List ℕ) → Outcome
  Puts : (text : List ℕ) → Outcome
  PutsLine : (line : List ℕ) → Outcome
  Executes : (parts : Parts) (limit : ℕ) → Outcome
  Interprets : (program : Program) (limit : ℕ) → Outcome
  Samples : (parts : Parts) (size : ℕ) → Outcome
