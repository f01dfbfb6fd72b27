-- What the table of the visible declarations keeps: the place of the last declaration of each spelling, and for each
-- declaration the place of the one that it hides.
use Rattle.std.specs.Prelude.{◌≡◌, ℕ, ◌+◌, List, [], ◌∷◌, ◌++◌, map, Option, None, Some, if◌then◌else◌}
use Rattle.std.specs.Option.{unwrap_or}
use Rattle.std.specs.Str.{bytes_eq}
use Rattle.ckc_resolve.specs.declared.visible.Entry.{Entry}
use Rattle.ckc_resolve.specs.declared.visible.Slot.{Slot}
use Rattle.ckc_resolve.specs.Spellings.{Spelling}

abbrev pub entry_of : Slot → Entry
entry_of slot = record { spelling = slot.spelling; name = slot.name }

abbrev pub entries_of : List Slot → List Entry
entries_of slots = map entry_of slots

-- one place further; at the front if there is no later one
abbrev pub later_or : Option ℕ → Option ℕ → Option ℕ
later_or (Some i) first = Some (i + 1)
later_or None first = first

-- the place of the last declaration of a spelling
abbrev pub last_at : Spelling → List Entry → Option ℕ
last_at s [] = None
last_at s (e ∷ es) = later_or (last_at s es) (if bytes_eq s e.spelling then Some 0 else None)

-- for each declaration the place of the one of the same spelling before it, if some stand before all
abbrev pub hidden_by : List Entry → List Entry → List (Option ℕ)
hidden_by before [] = []
hidden_by before (e ∷ es) = last_at e.spelling before ∷ hidden_by (before ++ e ∷ []) es

abbrev pub hidden_of : List Slot → List (Option ℕ)
hidden_of slots = map (λ slot. slot.hidden) slots

pub record IsIndexed (slots : List Slot) (known : Spelling → Option (Option ℕ)) : Type 0 where
  pub last : (s : Spelling) → unwrap_or (known s) None ≡ last_at s (entries_of slots)
  pub hides : hidden_of slots ≡ hidden_by [] (entries_of slots)
