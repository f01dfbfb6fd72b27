-- What of a machine's stores is seen in placed code, and where the others may lie.
use Rattle.std.specs.Prelude.{ℕ, ◌+◌, ◌-◌, ◌*◌, ◌==◌, nat_le, nat_lt, ◌&&◌, ◌||◌, Bool, true, if◌then◌else◌, List, [], ◌∷◌}
use Rattle.ckc_base.specs.MemoryMap.{memory_end}
use Rattle.ckc_base.specs.declared.arithmetic.Width.TheVariants.{Byte, Word}
use Rattle.ckc_base.specs.LongEvents.{LongEvent, Plain, Stored}
use Rattle.ckc_base.specs.Memory.{is_data}
use Rattle.ckc_rv.specs.Detailed.{MachineEvent, Outside, Wrote}
use Rattle.ckc_frame.specs.Meaning.{State, active}

-- a store of a byte or a word into the data region
abbrev pub data_store : (at count value : ℕ) → List LongEvent
data_store at count value =
    if is_data at
    then (if count == 1 then Stored at Byte value ∷ []
    else if count == 4 then Stored at Word value ∷ [] else []) else []

-- an event of the machine as placed code shows it
abbrev pub seen_events : MachineEvent → List LongEvent
seen_events (Outside event) = Plain event ∷ []
seen_events (Wrote at count value) = data_store at count value

-- where the frame of the call with a number begins: the first is the highest
abbrev pub frame_start : ℕ → ℕ
frame_start d = memory_end - 16384 * d

-- the bytes lie in the frame of the call with a number
abbrev pub is_in_frame : (d at count : ℕ) → Bool
is_in_frame d at count = nat_le (frame_start d) at && nat_le (at + count) (frame_start d + 16384)

-- A store that placed code shows; or one into the frame of the innermost active call, or of the next one, if one more
-- may be active.
abbrev pub may_store : (d at count : ℕ) → Bool
may_store d at count =
    (is_data at && (count == 1 || count == 4)) || is_in_frame d at count
    || (nat_lt d 1024 && is_in_frame (d + 1) at count)

abbrev pub may_do : State → MachineEvent → Bool
may_do s (Outside event) = true
may_do s (Wrote at count value) = may_store (active s) at count
