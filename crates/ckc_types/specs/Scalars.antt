-- The sizes of integers and pointers (RISC-V ELF psABI, ILP32): a `char` has one byte, the others have four, and each
-- lies at a multiple of its size. Each table below has a line for each form of a type.
use Rattle.std.specs.Prelude.{ℕ}
use Rattle.ckc_types.specs.declared.types.CType.{CType, CType-F, out-CType}

abbrev pub IsScalarForm : CType-F CType → Type 0
IsScalarForm CType-F.Int = Unit {0}
IsScalarForm CType-F.Unsigned = Unit {0}
IsScalarForm CType-F.Char = Unit {0}
IsScalarForm CType-F.Void = ⊥
IsScalarForm (CType-F.Struct tag) = ⊥
IsScalarForm (CType-F.Pointer kind to) = Unit {0}

-- the size of an integer or a pointer, and 0 for `void` and structures, which are no scalars
abbrev pub size_of_form : CType-F CType → ℕ
size_of_form CType-F.Int = 4
size_of_form CType-F.Unsigned = 4
size_of_form CType-F.Char = 1
size_of_form CType-F.Void = 0
size_of_form (CType-F.Struct tag) = 0
size_of_form (CType-F.Pointer kind to) = 4

-- the alignment of an integer or a pointer, and 1 for `void` and structures
abbrev pub align_of_form : CType-F CType → ℕ
align_of_form CType-F.Int = 4
align_of_form CType-F.Unsigned = 4
align_of_form CType-F.Char = 1
align_of_form CType-F.Void = 1
align_of_form (CType-F.Struct tag) = 1
align_of_form (CType-F.Pointer kind to) = 4

-- an integer or a pointer
abbrev pub IsScalar : CType → Type 0
IsScalar t = IsScalarForm (out-CType t)

-- how many bytes an integer or a pointer takes
abbrev pub scalar_size : CType → ℕ
scalar_size t = size_of_form (out-CType t)

-- the number whose multiples are the addresses at which an integer or a pointer may lie
abbrev pub scalar_align : CType → ℕ
scalar_align t = align_of_form (out-CType t)
