-- What is promised of the machine that runs emitted lines: it follows the placed code, and its stores are those that
-- placed code does, or lie in the frames of active calls.
use Rattle.std.specs.Prelude.{◌≢◌, ℕ, ◌<◌, IsTrue, List, All}
use Rattle.ckc_base.specs.Traces.{Stuck, narrowed}
use Rattle.ckc_base.specs.LongEvents.{data_events}
use Rattle.ckc_base.specs.Follows.{Follows}
use Rattle.ckc_base.specs.Listing.{Listing}
use Rattle.ckc_rv.specs.Machine as machine
use Rattle.ckc_rv.specs.Machine.{Parts, machine}
use Rattle.ckc_rv.specs.Detailed.{detailed_machine, detailed_system}
use Rattle.ckc_asm_lines.specs.declared.lines.Labelled.{Labelled}
use Rattle.ckc_asm_lines.specs.Assembled.{Assembled}
use Rattle.ckc_frame.specs.declared.code.Placed.{Placed}
use Rattle.ckc_frame.specs.Meaning.{first_state, placed_detail, placed_meaning, placed_system}
use Rattle.ckc_emit.specs.Stores.{seen_events, may_do}

-- The machine of the parts follows placed code within 80 instructions for each of its steps, with every input.
abbrev pub FollowsPlaced : Placed → Parts → Type 0
FollowsPlaced p parts =
    (input : List ℕ) → All (λ b. b < 256) input
    → Follows (placed_meaning p input) (machine parts input) 80

-- The same with its stores to the data region.
abbrev pub FollowsStores : Placed → Parts → Type 0
FollowsStores p parts = (input : List ℕ) → All (λ b. b < 256) input →
    Follows (λ n. narrowed data_events (placed_detail p input n))
    (λ k. narrowed seen_events (detailed_machine parts input k)) 80

-- With an input with which placed code is never stuck, the steps of the machine can be listed beside those of placed
-- code: input, output and the stores to the data region are the same, and every other store lies in the frame of the
-- innermost active call, or in the next one.
abbrev pub ListsStores : Placed → Parts → Type 0
ListsStores p parts =
    (input : List ℕ) → All (λ b. b < 256) input
    → ((n : ℕ) → (placed_detail p input n).standing ≢ Stuck) → (k : ℕ) →
    Listing (placed_system p.funcs) (detailed_system parts) data_events seen_events
    (λ s event. IsTrue (may_do s event)) (λ s t. Unit {0})
    (first_state p input) (machine.first_state parts input) k

-- what holds of all parts that labelled lines are assembled to
abbrev pub WhenAssembled : Labelled → (Parts → Type 0) → Type 0
WhenAssembled l P =
    (parts : Parts) → Assembled l.lines l.start l.initial parts.entry parts.code parts.initial
    → P parts
