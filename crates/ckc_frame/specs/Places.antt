-- Places by number, and what of them a call leaves.
use Rattle.std.specs.Prelude.{ℕ, ◌+◌, ◌==◌, nat_lt, Bool, true, false, ◌||◌, if◌then◌else◌, List, [], ◌∷◌, slice_get, Option, Some, None}
use Rattle.ckc_base.specs.Activations.{Values, none_written, with_written}
use Rattle.ckc_frame.specs.declared.code.Place.{Place}
use Rattle.ckc_frame.specs.declared.code.Place.TheVariants.{Reg, Slot}

abbrev pub register_count : ℕ
register_count = 16

abbrev pub slot_count : ℕ
slot_count = 4064

-- the registers come first, then the slots
abbrev pub number_of : Place → ℕ
number_of (Reg r) = r
number_of (Slot s) = register_count + s

-- the place of a register by its number; one without a place is after all places
abbrev pub number_of_home : Option Place → ℕ
number_of_home (Some place) = number_of place
number_of_home None = register_count + slot_count

unfoldable pub home : List Place → ℕ → ℕ
home homes r = number_of_home (slice_get homes r)

-- the values of the registers of the code, each at its place
unfoldable pub registers_in : List Place → Values → Values
registers_in homes places r = places (home homes r)

-- the places at the entry of a call: the parameters from r on have these values; of two at one place the first has it
unfoldable pub entry_places : List Place → ℕ → List ℕ → Values
entry_places homes r [] = none_written
entry_places homes r (value ∷ values) = with_written (entry_places homes (r + 1) values) (home homes r) value

-- whether a place is the home of a register that a row marks
abbrev pub is_kept_home : ℕ → List Place → List Bool → Bool
is_kept_home q [] marks = false
is_kept_home q (place ∷ places) [] = false
is_kept_home q (place ∷ places) (true ∷ marks) = number_of place == q || is_kept_home q places marks
is_kept_home q (place ∷ places) (false ∷ marks) = is_kept_home q places marks

-- what a call leaves of the places: every slot, and of the registers those that are the home of a kept one
unfoldable pub places_kept : List Place → List Bool → Values → Values
places_kept homes marks places q =
    if nat_lt q register_count then (if is_kept_home q homes marks then places q else None) else places q

-- the row of marks of a call; one that is not there keeps nothing
abbrev pub marks_of : Option (List Bool) → List Bool
marks_of (Some marks) = marks
marks_of None = []
