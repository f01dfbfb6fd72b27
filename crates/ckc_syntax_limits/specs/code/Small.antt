-- An answer that is an error or none.
use Rattle.std.specs.Prelude.{Result, Ok, Err, ◌≡◌, List, []}
use Rattle.ckc_base.specs.declared.places.Refusal.{Refusal}
use Rattle.ckc_syntax_limits.specs.Small.{IsFirst}

-- an answer is good if nothing is broken, and else it is the first that is
abbrev pub Judges : {X : Type 0} → Result X Refusal → List Refusal → Type 0
Judges (Ok x) rs = rs ≡ []
Judges (Err r) rs = IsFirst r rs
