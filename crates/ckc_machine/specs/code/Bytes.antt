-- Bytes of memory as parts of words, in which the code keeps them.
use Rattle.std.specs.Prelude.{◌≡◌, ℕ, ◌+◌, ◌-◌, ◌*◌, ◌/◌, ◌%◌, ◌^◌, ◌<◌, ◌≤◌, ◌⊎◌, Some, None}
use Rattle.ckc_rv.specs.Machine.{Memory}
use Rattle.ckc_machine.specs.Bytes.{byte_of}

-- the four bytes from an address are those of a word
abbrev pub Holds : Memory → ℕ → ℕ → Type 0
Holds memory a word = (i : ℕ) → i < 4 → memory (a + i) ≡ Some (byte_of word i)

-- none of the four bytes from an address is mapped
abbrev pub IsUnmapped : Memory → ℕ → Type 0
IsUnmapped memory a = (i : ℕ) → i < 4 → memory (a + i) ≡ None

-- The four bytes from an address are now those of a word; all others are as they were.
pub record IsChanged (old new : Memory) (a word : ℕ) : Type 0 where
  pub here : Holds new a word
  pub elsewhere : (q : ℕ) → (q < a) ⊎ (a + 4 ≤ q) → new q ≡ old q

-- so many bytes of a word from a place on, as a number
abbrev pub part_of : ℕ → ℕ → ℕ → ℕ
part_of word place count = word / 2 ^ (8 * place) % 256 ^ count

-- A word has, from a place on, so many bytes of a value, and else those of another word.
pub record IsMerged (word place count value merged : ℕ) : Type 0 where
  pub inside : (i : ℕ) → i < count → byte_of merged (place + i) ≡ byte_of value i
  pub outside : (i : ℕ) → i < 4 → (i < place) ⊎ (place + count ≤ i) → byte_of merged i ≡ byte_of word i
