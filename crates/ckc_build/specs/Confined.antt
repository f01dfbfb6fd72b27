-- Where the machine of a text that is wholly checked stores.
use Rattle.std.specs.Prelude.{◌≡◌, ◌⊎◌, ℕ, IsTrue, List, [], ◌∷◌}
use Rattle.ckc_base.specs.declared.arithmetic.Width.{Width}
use Rattle.ckc_base.specs.Listing.{Listing}
use Rattle.ckc_base.specs.Memory.{width_bytes}
use Rattle.ckc_base.specs.Traces.{Event}
use Rattle.ckc_build_compile.specs.Confined.{IsInFrame}
use Rattle.ckc_checks_follow.specs.Stores.{IsHeapWord}
use Rattle.ckc_rv.specs.Detailed.{MachineEvent, Outside, Wrote, outside_events, detailed_system}
use Rattle.ckc_rv.specs.Machine as machine
use Rattle.ckc_rv.specs.Machine.{Parts}
use Rattle.ckc_source.specs.Blocks.{lies_in}
use Rattle.ckc_source.specs.Code.{Program}
use Rattle.ckc_source.specs.Source.{source_system, first_state}
use Rattle.ckc_source.specs.States.{State, active}

-- A store of the machine while the program is at a state is of the heap word, or lies in a block of the state, in the
-- frame of the innermost call or in that of one more.
abbrev pub StaysInside : State → MachineEvent → Type 0
StaysInside s (Outside event) = Unit {0}
StaysInside s (Wrote at count value) =
    ((width : Width) × (count ≡ width_bytes width) × (IsHeapWord at width ⊎ IsTrue (lies_in width at s.blocks)))
    ⊎ IsInFrame (active s) at count

-- The steps of the machine can be listed beside those of the program, with an input: input and output are the same, and
-- each store stays inside.
abbrev pub StoresStayInside : Program → Parts → List ℕ → Type 0
StoresStayInside p parts input =
    (k : ℕ) → Listing (source_system p) (detailed_system parts) (λ (e : Event). e ∷ []) outside_events
    StaysInside (λ s t. Unit {0}) (first_state p input) (machine.first_state parts input) k
