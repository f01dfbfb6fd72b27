-- Where the machine stores beside its source program.
use Rattle.std.specs.Prelude.{◌≡◌, ◌≢◌, ◌⊎◌, ℕ, ◌+◌, nat_lt, ◌&&◌, ◌||◌, IsTrue, List, [], ◌∷◌}
use Rattle.ckc_base.specs.declared.arithmetic.Width.{Width}
use Rattle.ckc_base.specs.Follows.{IsSafe}
use Rattle.ckc_base.specs.Listing.{Listing}
use Rattle.ckc_base.specs.LongEvents.{Stored}
use Rattle.ckc_base.specs.Memory.{width_bytes}
use Rattle.ckc_base.specs.Traces.{Event, Stuck}
use Rattle.ckc_source.specs.Code.{Program}
use Rattle.ckc_source.specs.LaidOut.{AreBytes}
use Rattle.ckc_source.specs.Source.{source, source_system, first_state}
use Rattle.ckc_source.specs.States.{State, active}
use Rattle.ckc_checks_follow.specs.Stores.{MayDo}
use Rattle.ckc_emit.specs.Stores.{is_in_frame}
use Rattle.ckc_rv.specs.Detailed.{MachineEvent, Outside, Wrote, outside_events, detailed_system}
use Rattle.ckc_rv.specs.Machine as machine
use Rattle.ckc_rv.specs.Machine.{machine}

-- the program is never stuck with this input
abbrev pub NeverStuck : Program → List ℕ → Type 0
NeverStuck p input = (n : ℕ) → (source p input n).standing ≢ Stuck

-- the bytes lie in the frame of the innermost of so many active calls, or in that of one more, if it may be active
abbrev pub IsInFrame : (active at count : ℕ) → Type 0
IsInFrame active at count = IsTrue (is_in_frame active at count || (nat_lt active 1024 && is_in_frame (active + 1) at count))

-- A store of the machine while the program is at a state: it is one that core code may do, so it lies in a block of the
-- state, is of the heap word or is planned by the step of the state; or it lies in a frame.
abbrev pub MayWrite : Program → State → MachineEvent → Type 0
MayWrite p s (Outside event) = Unit {0}
MayWrite p s (Wrote at count value) =
    ((width : Width) × (count ≡ width_bytes width) × MayDo p s (Stored at width value)) ⊎ IsInFrame (active s) at count

-- The steps of the machine can be listed beside those of the program, with an input: input and output are the same, and
-- each store is one that may be made.
abbrev pub Confines : Program → machine.Parts → List ℕ → Type 0
Confines p parts input =
    (k : ℕ) → Listing (source_system p) (detailed_system parts) (λ (e : Event). e ∷ []) outside_events
    (MayWrite p) (λ s t. Unit {0}) (first_state p input) (machine.first_state parts input) k

-- The machine is never at a fault, with an input.
abbrev pub IsFaultless : machine.Parts → List ℕ → Type 0
IsFaultless parts input = (k : ℕ) → IsSafe (machine parts input k).standing

-- With an input with which the program is never stuck, the stores of the machine are so.
abbrev pub ConfinesStores : Program → machine.Parts → Type 0
ConfinesStores p parts = (input : List ℕ) → AreBytes input → NeverStuck p input → Confines p parts input

-- With such an input the machine is never at a fault.
abbrev pub NeverFaults : Program → machine.Parts → Type 0
NeverFaults p parts = (input : List ℕ) → AreBytes input → NeverStuck p input → IsFaultless parts input
