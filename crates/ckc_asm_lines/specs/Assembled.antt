-- What labelled lines are assembled to: each line stands at the sum of the sizes before it, and its bytes are the
-- words of its instruction with the distance to its label (RISC-V unprivileged ISA manual, RV32I). `Far` is this
-- project's own: an AUIPC and a JALR through x26.
use Rattle.std.specs.Prelude.{◌≡◌, ℕ, ◌+◌, ◌*◌, ◌^◌, ◌<◌, ◌≤◌, ◌==◌, ℤ, pos, ◌-ℤ◌, Bool, false, List, [], length, take, drop, slice_get, Some, sum_by, count_by}
use Rattle.ckc_base.specs.Words.{applied}
use Rattle.ckc_base.specs.declared.arithmetic.BinOp.TheVariants as binary
use Rattle.ckc_base.specs.MemoryMap.{code_start, longest_code, longest_data}
use Rattle.ckc_rv.specs.declared.instructions.Instr.{Instr}
use Rattle.ckc_rv.specs.declared.instructions.Instr.TheVariants as instr
use Rattle.ckc_rv.specs.Table.{InRange, IsOffset, Decodes}
use Rattle.ckc_rv.specs.Effects.{moved}
use Rattle.ckc_image.specs.Image.{word_bytes}
use Rattle.ckc_asm_lines.specs.declared.lines.Line.{Line}
use Rattle.ckc_asm_lines.specs.declared.lines.Line.TheVariants.{Label, Plain, Jump, Branch, Far}

-- how many bytes a line takes
abbrev pub size_of : Line → ℕ
size_of (Label label) = 0
size_of (Plain i) = 4
size_of (Jump rd label) = 4
size_of (Branch op rs1 rs2 label) = 4
size_of (Far rd label) = 8

-- where the k-th line stands, counted from the code's first byte
abbrev pub offset_of : List Line → ℕ → ℕ
offset_of lines k = sum_by size_of (take k lines)

-- its address: the code stands from 0x00001000
abbrev pub address_of : List Line → ℕ → ℕ
address_of lines k = code_start + offset_of lines k

-- the label stands at the address
abbrev pub StandsAt : List Line → ℕ → ℕ → Type 0
StandsAt lines label address = (k : ℕ) × (slice_get lines k ≡ Some (Label label)) × (address ≡ address_of lines k)

abbrev pub is_label : ℕ → Line → Bool
is_label label (Label other) = label == other
is_label label line = false

-- the label stands once
abbrev pub StandsOnce : List Line → ℕ → Type 0
StandsOnce lines label = count_by (is_label label) lines ≡ 1

-- how far a target is from an address
abbrev pub distance : ℕ → ℕ → ℤ
distance address target = pos target -ℤ pos address

-- ---- the bytes of a line

-- the bytes of an instruction
abbrev pub IsWord : Instr → List ℕ → Type 0
IsWord i bytes = (word : ℕ) × (bytes ≡ word_bytes word) × Decodes word i

-- An AUIPC of x26 and a JALR through it, which together lead from the address to the target.
pub record IsFar (rd address target : ℕ) (bytes : List ℕ) : Type 0 where
  pub upper : ℕ
  pub lower : ℤ
  pub first : IsWord (instr.Auipc 26 upper) (take 4 bytes)
  pub second : IsWord (instr.Jalr rd 26 lower) (drop 4 bytes)
  pub leads : moved (applied binary.Add address (upper * 2 ^ 12)) lower ≡ target

-- the bytes of a line at an address, if labels stand at these addresses
abbrev pub IsCode : (ℕ → ℕ → Type 0) → ℕ → Line → List ℕ → Type 0
IsCode stands address (Label label) bytes = bytes ≡ []
IsCode stands address (Plain i) bytes = IsWord i bytes
IsCode stands address (Jump rd label) bytes =
    (target : ℕ) × stands label target × IsWord (instr.Jal rd (distance address target)) bytes
IsCode stands address (Branch op rs1 rs2 label) bytes =
    (target : ℕ) × stands label target × IsWord (instr.Branch op rs1 rs2 (distance address target)) bytes
IsCode stands address (Far rd label) bytes = (target : ℕ) × stands label target × IsFar rd address target bytes

-- ---- the parts

-- the bytes of the code where the k-th line stands
abbrev pub bytes_at : List Line → ℕ → Line → List ℕ → List ℕ
bytes_at lines k line code = take (size_of line) (drop (offset_of lines k) code)

-- Entry, code and initial bytes are those of the lines.
pub record Assembled (lines : List Line) (start : ℕ) (given : List ℕ) (entry : ℕ) (code initial : List ℕ) : Type 0 where
  pub whole : length code ≡ sum_by size_of lines
  pub each : (k : ℕ) (line : Line) → slice_get lines k ≡ Some line → IsCode (StandsAt lines) (address_of lines k) line (bytes_at lines k line code)
  pub starts : StandsAt lines start entry
  pub same : initial ≡ given

-- the same parts
pub record AreParts (entry : ℕ) (code initial : List ℕ) (entry' : ℕ) (code' initial' : List ℕ) : Type 0 where
  pub entry_is : entry ≡ entry'
  pub code_is : code ≡ code'
  pub initial_is : initial ≡ initial'

-- ---- which lines can be assembled

-- The instruction and the registers are in range, the label stands once, and a jump or branch reaches it.
abbrev pub CanStand : List Line → ℕ → Line → Type 0
CanStand lines address (Label label) = Unit {0}
CanStand lines address (Plain i) = InRange i
CanStand lines address (Jump rd label) =
    (rd < 32) × StandsOnce lines label × ((target : ℕ) → StandsAt lines label target → IsOffset (2 ^ 20) (distance address target))
CanStand lines address (Branch op rs1 rs2 label) =
    (rs1 < 32) × (rs2 < 32) × StandsOnce lines label
    × ((target : ℕ) → StandsAt lines label target → IsOffset (2 ^ 12) (distance address target))
CanStand lines address (Far rd label) = (rd < 32) × StandsOnce lines label

-- Each line can stand where it stands, the start stands once with an instruction after it, and all fits.
pub record CanAssemble (lines : List Line) (start : ℕ) (initial : List ℕ) : Type 0 where
  pub each : (k : ℕ) (line : Line) → slice_get lines k ≡ Some line → CanStand lines (address_of lines k) line
  pub once : StandsOnce lines start
  pub followed : (entry : ℕ) → StandsAt lines start entry → entry < code_start + sum_by size_of lines
  pub code_fits : sum_by size_of lines ≤ longest_code
  pub initial_fits : length initial ≤ longest_data
