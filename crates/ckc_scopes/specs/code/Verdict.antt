-- What is answered for spots in walk order: the refusal of the first that is at fault.
use Rattle.std.specs.Prelude.{ℕ, Result, Ok, Err, List, [], ◌∷◌, Option, None, Some}
use Rattle.ckc_base.specs.declared.places.Pos.{Pos}
use Rattle.ckc_base.specs.declared.places.Refusal.{Refusal}
use Rattle.ckc_syntax.specs.declared.tree.Item.{Item}
use Rattle.ckc_syntax.specs.declared.tree.Name.{Name}
use Rattle.ckc_typed.specs.declared.typed.Note.{Note}
use Rattle.ckc_typed.specs.Walk.{Spot}
use Rattle.ckc_typed.specs.Scoped.{fault_at}

abbrev pub Verdict : Type 0
Verdict = Result (Unit {0}) Refusal

-- the first of two verdicts that refuses
abbrev pub then : Verdict → Verdict → Verdict
then (Ok u) next = next
then (Err r) next = Err r

abbrev pub refused : Option ℕ → Pos → Verdict
refused None at = Ok tt
refused (Some code) at = Err (record { code = code; pos = at })

abbrev pub verdict : List (Item Name Note) → List Spot → Verdict
verdict items [] = Ok tt
verdict items (s ∷ rest) = then (refused (fault_at items s) s.at) (verdict items rest)

-- the first of some places
abbrev pub first : List Pos → Option Pos
first [] = None
first (at ∷ rest) = Some at
