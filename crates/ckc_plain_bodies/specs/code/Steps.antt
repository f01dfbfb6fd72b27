-- What an answer and what it leaves pending are, unless memory ran out.
use Rattle.std.specs.Prelude.{◌≡◌, Result, Ok, Err}

abbrev pub Steps : {A S F : Type 0} → Result A F → S → A × S → Type 0
Steps (Ok a) new made = made ≡ (a, new)
Steps (Err e) new made = Unit {0}
