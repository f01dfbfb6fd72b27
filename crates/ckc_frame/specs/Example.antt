-- A program with what it shows, as an example of the meaning: the one of `ckc_tac`, at places.
use Rattle.std.specs.Prelude.{ℕ, [], ◌∷◌, take, Bool, false}
use Rattle.ckc_base.specs.Traces.{Standing, Showing}
use Rattle.ckc_base.specs.LongEvents.{LongEvent}
use Rattle.ckc_tac.specs.Example.{example_main, example_callee, example_events}
use Rattle.ckc_frame.specs.declared.code.Place.TheVariants.{Reg, Slot}
use Rattle.ckc_frame.specs.declared.code.Placed.{Placed}

-- the flag says whether the call keeps the byte that is put after it, in the register 5
abbrev pub example : (keeps : Bool) → Placed
example keeps = record {
  initial = [];
  funcs = record {
    code = example_main;
    homes = Reg 5 ∷ Slot 0 ∷ [];
    kept = (keeps ∷ false ∷ []) ∷ [];
  }
      ∷ record { code = example_callee; homes = Slot 0 ∷ Reg 5 ∷ []; kept = [] } ∷ [];
  main = 0;
}

-- so many of the events of the example, and how it stands
abbrev pub example_shows : ℕ → Standing → Showing LongEvent
example_shows count standing = record { trace = take count example_events; standing = standing }
