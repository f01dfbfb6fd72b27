-- The listing of entry, code and initial bytes: the one text that assembly has for them.
use Rattle.std.specs.Prelude.{ℕ, ◌+◌, ◌*◌, ◌/◌, ℤ, List, [], ◌∷◌, ◌++◌, length, take, drop, map, codes, Option, Some, None}
use Rattle.std.specs.List.{flat_map, range_with_len}
use Rattle.std.specs.Fmt.{decimal, signed_decimal}
use Rattle.ckc_rv.specs.declared.instructions.Instr.{Instr}
use Rattle.ckc_rv.specs.declared.instructions.Instr.TheVariants.{Lui, Auipc, Jal, Jalr, Branch, Load, Store, Imm, Reg, Fence, Ecall, Ebreak}
use Rattle.ckc_rv.specs.code.Decoded.{decoded}
use Rattle.ckc_image.specs.declared.format.Format.{Format}
use Rattle.ckc_image.specs.Image.{word_at}
use Rattle.ckc_image.specs.declared.format.Format.TheVariants.{First, Elf}
use Rattle.ckc_asm.specs.Names.{branch_name, load_name, store_name, imm_name, reg_name, register, hex, hexadecimal}

-- two, three operands: one space after each comma
abbrev pub two : List ℕ → List ℕ → List ℕ
two a b = a ++ codes ", " ++ b

-- the same for three operands
abbrev pub three : List ℕ → List ℕ → List ℕ → List ℕ
three a b c = two a b ++ codes ", " ++ c

-- an offset from a register's value: `4(x2)`
abbrev pub from_register : ℤ → ℕ → List ℕ
from_register offset n = signed_decimal offset ++ codes "(" ++ register n ++ codes ")"

-- one space after the name
abbrev pub named : List ℕ → List ℕ → List ℕ
named name operands = name ++ codes " " ++ operands

-- an instruction as assembly
abbrev pub instr_text : Instr → List ℕ
instr_text (Lui rd upper) = named (codes "lui") (two (register rd) (hexadecimal 5 upper))
instr_text (Auipc rd upper) = named (codes "auipc") (two (register rd) (hexadecimal 5 upper))
instr_text (Jal rd offset) = named (codes "jal") (two (register rd) (signed_decimal offset))
instr_text (Jalr rd rs1 offset) = named (codes "jalr") (two (register rd) (from_register offset rs1))
instr_text (Branch op rs1 rs2 offset) = named (branch_name op) (three (register rs1) (register rs2) (signed_decimal offset))
instr_text (Load op rd rs1 offset) = named (load_name op) (two (register rd) (from_register offset rs1))
instr_text (Store op rs1 rs2 offset) = named (store_name op) (two (register rs2) (from_register offset rs1))
instr_text (Imm op rd rs1 immediate) = named (imm_name op) (three (register rd) (register rs1) (signed_decimal immediate))
instr_text (Reg op rd rs1 rs2) = named (reg_name op) (three (register rd) (register rs1) (register rs2))
instr_text (Fence sets) = named (codes "fence") (decimal sets)
instr_text Ecall = codes "ecall"
instr_text Ebreak = codes "ebreak"

-- a word's instruction, or `.word` if the table has none for it
abbrev pub instr_or_word : Option Instr → ℕ → List ℕ
instr_or_word (Some i) word = instr_text i
instr_or_word None word = named (codes ".word") (hexadecimal 8 word)

-- a word of the code as assembly
abbrev pub word_text : ℕ → List ℕ
word_text word = instr_or_word (decoded word) word

-- the `.entry` line of an image
abbrev pub entry_text : ℕ → List ℕ
entry_text entry = named (codes ".entry") (hexadecimal 8 entry)

-- each byte with a space in front
abbrev pub data_text : List ℕ → List ℕ
data_text bytes = codes ".data" ++ flat_map (λ byte. 32 ∷ hex 2 byte) bytes

-- the text of the k-th word of the code, and of the k-th sixteen initial bytes
abbrev pub word_line : List ℕ → ℕ → List ℕ
word_line code k = word_text (word_at code (4 * k))

-- the `.data` line of the k-th sixteen initial bytes
abbrev pub data_line : List ℕ → ℕ → List ℕ
data_line initial k = data_text (take 16 (drop (16 * k) initial))

-- one line for each word of the code
abbrev pub word_lines : List ℕ → List (List ℕ)
word_lines code = map (word_line code) (range_with_len 0 (length code / 4))

-- one line for each sixteen initial bytes and for those left over
abbrev pub data_lines : List ℕ → List (List ℕ)
data_lines initial = map (data_line initial) (range_with_len 0 ((length initial + 15) / 16))

-- the entry, then each word of the code, then the initial bytes
abbrev pub listing_lines : ℕ → List ℕ → List ℕ → List (List ℕ)
listing_lines entry code initial = entry_text entry ∷ word_lines code ++ data_lines initial

-- lines, each ended by a line feed
abbrev pub ended : List ℕ → List ℕ
ended line = line ++ 10 ∷ []

-- the text of these lines
abbrev pub text_of : List (List ℕ) → List ℕ
text_of lines = flat_map ended lines

-- the listing of an image: its entry, its code and its initial bytes
abbrev pub listing : ℕ → List ℕ → List ℕ → List ℕ
listing entry code initial = text_of (listing_lines entry code initial)

-- ---- what is written of an image

-- the line of the format of an image, a comment
abbrev pub format_text : Format → List ℕ
format_text First = codes "# version 1"
format_text Elf = codes "# elf32"

-- the line of the format, then the lines of the listing
abbrev pub shown_lines : Format → ℕ → List ℕ → List ℕ → List (List ℕ)
shown_lines format entry code initial = format_text format ∷ listing_lines entry code initial

-- what is written of an image: the line of its format, then its listing
abbrev pub shown_image : Format → ℕ → List ℕ → List ℕ → List ℕ
shown_image format entry code initial = text_of (shown_lines format entry code initial)
