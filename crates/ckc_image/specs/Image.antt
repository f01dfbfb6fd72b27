-- The two formats of an image. Version 1 is the project's own; numbers are words with the lowest byte first.
use Rattle.ckc_base.specs.MemoryMap.{code_start, longest_code, longest_data}
use Rattle.std.specs.Prelude.{◌≡◌, ℕ, ◌+◌, ◌%◌, ◌<◌, ◌≤◌, List, ◌++◌, length, take, codes, ◌⊎◌}
pub use Rattle.ckc_image.specs.declared.format.Format.{Format}
use Rattle.ckc_image.specs.declared.format.Format.TheVariants.{First, Elf}
pub use Rattle.ckc_image.specs.Words.{word_bytes, four_at, word_at}
use Rattle.ckc_image.specs.Elf.{elf_magic, elf_version, elf_header}

-- ---- the parts

-- Code is made of words. It and the initial bytes fit their regions of 16 MiB, of which the first 0x1000 bytes of
-- the code's region are left out.
abbrev pub LengthsFit : ℕ → ℕ → Type 0
LengthsFit code initial = (code % 4 ≡ 0) × (4 ≤ code) × (code ≤ longest_code) × (initial ≤ longest_data)

-- the entry is the address of a word of the code, which stands from 0x00001000
abbrev pub EntryFits : ℕ → ℕ → Type 0
EntryFits entry code = (entry % 4 ≡ 0) × (code_start ≤ entry) × (entry < code_start + code)

-- entry, code and initial bytes that an image may have
abbrev pub IsProper : ℕ → List ℕ → List ℕ → Type 0
IsProper entry code initial = LengthsFit (length code) (length initial) × EntryFits entry (length code)

-- ---- the bytes

-- the first four bytes: `CCIM`, or 7F and `ELF`
abbrev pub magic : Format → List ℕ
magic First = codes "CCIM"
magic Elf = elf_magic

-- the next four: the version
abbrev pub version : Format → List ℕ
version First = word_bytes 1
version Elf = elf_version

-- the header of an image with this entry, so many bytes of code and so many initial bytes
abbrev pub header : Format → (entry code initial : ℕ) → List ℕ
header First entry code initial = magic First ++ version First ++ word_bytes entry ++ word_bytes code ++ word_bytes initial
header Elf entry code initial = elf_header entry code initial

-- the bytes of an image with these parts
abbrev pub image_bytes : Format → ℕ → List ℕ → List ℕ → List ℕ
image_bytes format entry code initial = header format entry (length code) (length initial) ++ code ++ initial

-- The bytes are the image of the parts in the format.
abbrev pub ImageOf : Format → List ℕ → ℕ → List ℕ → List ℕ → Type 0
ImageOf format bytes entry code initial = IsProper entry code initial × (bytes ≡ image_bytes format entry code initial)

-- ---- the first part that disagrees

-- How long the header of a format is, and where the entry, the length of the code and that of the initial bytes stand in it.
pub record Places : Type 0 where
  pub size : ℕ
  pub entry : ℕ
  pub code : ℕ
  pub initial : ℕ

-- these places
abbrev pub places : Format → Places
places First = record { size = 20; entry = 8; code = 12; initial = 16 }
places Elf = record { size = 116; entry = 24; code = 68; initial = 100 }

-- 1: the magic
abbrev pub HasMagic : Format → List ℕ → Type 0
HasMagic format bytes = four_at bytes 0 ≡ magic format

-- 2: the version
abbrev pub HasVersion : Format → List ℕ → Type 0
HasVersion format bytes = four_at bytes 4 ≡ version format

-- 3: the bytes are a header, and the code and the initial bytes with the lengths that it says
abbrev pub HasLength : Format → List ℕ → Type 0
HasLength format bytes =
    ((places format).size ≤ length bytes)
    × (length bytes ≡ (places format).size + word_at bytes (places format).code + word_at bytes (places format).initial)

-- 4: the lengths that the header says fit
abbrev pub HasLengths : Format → List ℕ → Type 0
HasLengths format bytes = LengthsFit (word_at bytes (places format).code) (word_at bytes (places format).initial)

-- 5: the entry that the header says is the address of a word of the code
abbrev pub HasEntry : Format → List ℕ → Type 0
HasEntry format bytes = EntryFits (word_at bytes (places format).entry) (word_at bytes (places format).code)

-- 6: every other byte of the header is as the format says. Version 1 has no other.
abbrev pub HasRest : Format → List ℕ → Type 0
HasRest First bytes = Unit {0}
HasRest Elf bytes = take 116 bytes ≡ elf_header (word_at bytes 24) (word_at bytes 68) (word_at bytes 100)

-- k is the first of the six parts that disagrees with the bytes, if they are judged by a format
abbrev pub FirstBadOf : Format → List ℕ → ℕ → Type 0
FirstBadOf f bytes k =
    ((k ≡ 1) × ¬ HasMagic f bytes)
    ⊎ ((k ≡ 2) × HasMagic f bytes × ¬ HasVersion f bytes)
    ⊎ ((k ≡ 3) × HasMagic f bytes × HasVersion f bytes × ¬ HasLength f bytes)
    ⊎ ((k ≡ 4) × HasMagic f bytes × HasVersion f bytes × HasLength f bytes × ¬ HasLengths f bytes)
    ⊎ ((k ≡ 5) × HasMagic f bytes × HasVersion f bytes × HasLength f bytes × HasLengths f bytes × ¬ HasEntry f bytes)
    ⊎ ((k ≡ 6) × HasMagic f bytes × HasVersion f bytes × HasLength f bytes × HasLengths f bytes × HasEntry f bytes × ¬ HasRest f bytes)

-- Bytes that begin as an ELF file does are judged as one, and all others by version 1.
abbrev pub FirstBad : List ℕ → ℕ → Type 0
FirstBad bytes k = (HasMagic Elf bytes × FirstBadOf Elf bytes k) ⊎ ((¬ HasMagic Elf bytes) × FirstBadOf First bytes k)
