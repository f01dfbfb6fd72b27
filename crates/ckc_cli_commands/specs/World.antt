-- The objects that a call is given: what is told of them, and when they are the very same after it.
use Rattle.std.specs.Prelude.{◌≡◌, ℕ, List, Some}
use Rattle.ckc_outside.specs.Outside.{SeenSource, SeenSink, Stored}

-- what is told of the input, the output, the error output and the store
pub record World : Type 0 where
  pub input : SeenSource
  pub output : SeenSink
  pub error : SeenSink
  pub store : Stored

-- the four objects of a call
abbrev pub world : SeenSource → SeenSink → SeenSink → Stored → World
world input output error store = record { input = input; output = output; error = error; store = store }

-- the same world, where the input tells these bytes to be left
abbrev pub fed : List ℕ → World → World
fed given w = record w { input = record w.input { left = Some given } }

-- That an object was not touched, which says more than what is told of it: one statement for each object.
pub record Untouched : Type 1 where
  pub input : Type 0
  pub output : Type 0
  pub store : Type 0

-- an object was not touched if it is the same after the call
abbrev pub untouched : {S O F : Type 0} → S → S → O → O → F → F → Untouched
untouched input input' out out' store store' = record { input = input' ≡ input; output = out' ≡ out; store = store' ≡ store }

-- the same for a command that is given no store
abbrev pub streams : {S O : Type 0} → S → S → O → O → Untouched
streams input input' out out' = record { input = input' ≡ input; output = out' ≡ out; store = Unit {0} }

-- the same for a command that is given the output alone
abbrev pub output_alone : {O : Type 0} → O → O → Untouched
output_alone out out' = record { input = Unit {0}; output = out' ≡ out; store = Unit {0} }

-- the same for a command that is given neither input nor output
abbrev pub not_given : Untouched
not_given = record { input = Unit {0}; output = Unit {0}; store = Unit {0} }
