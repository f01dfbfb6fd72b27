-- The headers of an image that is an ELF32 executable for RISC-V (System V ABI, chapters 4 and 5; its machine is 243).
use Rattle.ckc_base.specs.MemoryMap.{code_start, data_start, longest_data}
use Rattle.std.specs.Prelude.{ℕ, ◌+◌, List, [], ◌∷◌, ◌++◌, codes}
use Rattle.ckc_image.specs.Words.{word_bytes, half_bytes}

-- 7F and `ELF`
abbrev pub elf_magic : List ℕ
elf_magic = 0x7F ∷ codes "ELF"

-- addresses of 32 bits, the lowest byte first, version 1, no system
abbrev pub elf_version : List ℕ
elf_version = 1 ∷ 1 ∷ 1 ∷ 0 ∷ []

-- The header of the file, 52 bytes: it is an executable (2) for RISC-V (243) of version 1. It starts at the entry, its
-- program headers stand from byte 52, and it has no sections and no flags. Its header has 52 bytes and each program
-- header 32; there are two of these. The sections have no length, no number and no names.
abbrev pub file_header : ℕ → List ℕ
file_header entry =
    elf_magic ++ elf_version ++ word_bytes 0 ++ word_bytes 0
    ++ half_bytes 2 ++ half_bytes 243 ++ word_bytes 1 ++ word_bytes entry ++ word_bytes 52 ++ word_bytes 0 ++ word_bytes 0
    ++ half_bytes 52 ++ half_bytes 32 ++ half_bytes 2 ++ half_bytes 0 ++ half_bytes 0 ++ half_bytes 0

-- A program header, 32 bytes: a segment that is loaded (1). The bytes of the file from an offset, so many as the size
-- says, lie at the address, which is also the physical one, and zeros up to the room. The rights are the sum of
-- 4 to read, 2 to write and 1 to execute. Addresses are multiples of 4.
abbrev pub program_header : (offset address size room rights : ℕ) → List ℕ
program_header offset address size room rights =
    word_bytes 1 ++ word_bytes offset ++ word_bytes address ++ word_bytes address
    ++ word_bytes size ++ word_bytes room ++ word_bytes rights ++ word_bytes 4

-- All headers, 116 bytes: of the file, of the code, which follows them, and of the initial bytes after the code, which
-- are the first of the data region.
abbrev pub elf_header : (entry code initial : ℕ) → List ℕ
elf_header entry code initial =
    file_header entry
    ++ program_header 116 code_start code code 5
    ++ program_header (116 + code) data_start initial longest_data 6
