-- The table of labels while it is filled, and what it says of a line.
use Rattle.std.specs.Prelude.{◌≡◌, ℕ, ◌<◌, ◌^◌, true, List, length, take, slice_get, Option, Some, IsSome}
use Rattle.std.specs.List.{list_any}
use Rattle.ckc_rv.specs.Table.{InRange, IsOffset}
use Rattle.ckc_asm_lines.specs.declared.lines.Line.{Line}
use Rattle.ckc_asm_lines.specs.declared.lines.Line.TheVariants.{Label, Plain, Jump, Branch, Far}
use Rattle.ckc_asm_lines.specs.Assembled.{size_of, address_of, offset_of, bytes_at, is_label, distance, IsCode, StandsAt}

-- the table has the labels of the first n lines, each where it stands
pub record KnowsPlaces (known : ℕ → Option ℕ) (lines : List Line) (n : ℕ) : Type 0 where
  pub sound : (label address : ℕ) → known label ≡ Some address → StandsAt lines label address
  pub complete : (label : ℕ) → list_any (is_label label) (take n lines) ≡ true → IsSome (known label)

-- a label with its address in the table
abbrev pub Knows : (ℕ → Option ℕ) → ℕ → ℕ → Type 0
Knows known label target = known label ≡ Some target

-- the line can be encoded at the address
abbrev pub CanEncode : (ℕ → Option ℕ) → ℕ → Line → Type 0
CanEncode known address (Label label) = Unit {0}
CanEncode known address (Plain i) = InRange i
CanEncode known address (Jump rd label) =
    (rd < 32) × IsSome (known label) × ((target : ℕ) → known label ≡ Some target → (target < 2 ^ 25) × IsOffset (2 ^ 20) (distance address target))
CanEncode known address (Branch op rs1 rs2 label) =
    (rs1 < 32) × (rs2 < 32) × IsSome (known label)
    × ((target : ℕ) → known label ≡ Some target → (target < 2 ^ 25) × IsOffset (2 ^ 12) (distance address target))
CanEncode known address (Far rd label) =
    (rd < 32) × IsSome (known label) × ((target : ℕ) → known label ≡ Some target → target < 2 ^ 25)

-- the bytes are the line's
abbrev pub Encodes : (ℕ → Option ℕ) → ℕ → Line → List ℕ → Type 0
Encodes known address line bytes = IsCode (Knows known) address line bytes × (length bytes ≡ size_of line)

-- the code of the first n lines
pub record IsCodeBelow (known : ℕ → Option ℕ) (lines : List Line) (n : ℕ) (code : List ℕ) : Type 0 where
  pub whole : length code ≡ offset_of lines n
  pub each : (k : ℕ) (line : Line) → k < n → slice_get lines k ≡ Some line → IsCode (Knows known) (address_of lines k) line (bytes_at lines k line code)
