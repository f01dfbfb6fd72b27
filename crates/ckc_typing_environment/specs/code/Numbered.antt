-- Look-ups by number.
use Rattle.std.specs.Prelude.{ℕ, List, Option, None, Some, slice_get}

abbrev pub at_place : {A : Type 0} → Option ℕ → List A → Option A
at_place (Some k) xs = slice_get xs k
at_place None xs = None
