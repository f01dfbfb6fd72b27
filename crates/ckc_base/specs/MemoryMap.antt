-- The memory of the machine that programs are compiled for (docs/image.md): where its parts lie, and how many bytes the
-- code and the first bytes of the data region may have.
use Rattle.std.specs.Prelude.{ℕ}

-- where the code begins
abbrev pub code_start : ℕ
code_start = 0x00001000

-- how many bytes of code there may be
abbrev pub longest_code : ℕ
longest_code = 16773120

-- how many instructions that are
abbrev pub most_instructions : ℕ
most_instructions = 4193280

-- where the data region begins; its first word is the heap's
abbrev pub data_start : ℕ
data_start = 0x02000000

-- where the first object of a program begins
abbrev pub first_place : ℕ
first_place = 0x02000008

-- the last end that an object of file scope may have
abbrev pub statics_end : ℕ
statics_end = 0x02400000

-- how many bytes lie up to there
abbrev pub longest_statics : ℕ
longest_statics = 4194304

-- where the data region ends
abbrev pub data_end : ℕ
data_end = 0x03000000

-- how many first bytes the data region may have
abbrev pub longest_data : ℕ
longest_data = 16777216

-- where the stack begins, and where it ends
abbrev pub stack_start : ℕ
stack_start = 0x03000000

-- where the stack ends, and with it the memory of the machine
abbrev pub memory_end : ℕ
memory_end = 0x04000000
