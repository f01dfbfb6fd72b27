-- Sizes and alignments by the form of a type.
use Rattle.std.proofs.Common.{◌≡◌, ℕ, rules}
use Rattle.ckc_types.specs.declared.types.CType.{CType, the_lemmas}
use Rattle.ckc_types.specs.declared.types.CType.TheVariants as ctype
use Rattle.ckc_types.specs.declared.types.Kind.{Kind}
use Rattle.ckc_types.specs.declared.types.Structs.{Structs}
use Rattle.ckc_types.specs.Layout.{align, members_of, size, struct_align, struct_size}

module _ (structs : Structs) where
  pub size_of_int : size structs ctype.Int ≡ 4
  size_of_int = search (rules, the_lemmas)

  pub size_of_unsigned : size structs ctype.Unsigned ≡ 4
  size_of_unsigned = search (rules, the_lemmas)

  pub size_of_char : size structs ctype.Char ≡ 1
  size_of_char = search (rules, the_lemmas)

  pub size_of_pointer : (kind : Kind) (to : CType) → size structs (ctype.Pointer kind to) ≡ 4
  size_of_pointer kind to = search (rules, the_lemmas)

  pub size_of_struct : (tag : ℕ) → size structs (ctype.Struct tag) ≡ struct_size (members_of structs tag)
  size_of_struct tag = search (rules, the_lemmas)

  pub align_of_int : align structs ctype.Int ≡ 4
  align_of_int = search (rules, the_lemmas)

  pub align_of_unsigned : align structs ctype.Unsigned ≡ 4
  align_of_unsigned = search (rules, the_lemmas)

  pub align_of_char : align structs ctype.Char ≡ 1
  align_of_char = search (rules, the_lemmas)

  pub align_of_pointer : (kind : Kind) (to : CType) → align structs (ctype.Pointer kind to) ≡ 4
  align_of_pointer kind to = search (rules, the_lemmas)

  pub align_of_struct : (tag : ℕ) → align structs (ctype.Struct tag) ≡ struct_align (members_of structs tag)
  align_of_struct tag = search (rules, the_lemmas)
