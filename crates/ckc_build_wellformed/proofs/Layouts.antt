-- The layout of the types of a text, and how the integers and pointers in an element lie by it.
use Rattle.std.proofs.Common.{◌≡◌, ◌∙◌, refl, sym, ap, subst, arith, ℕ, ◌+◌, ◌*◌, ◌%◌, ◌≤◌, ◌<◌, Bool, true, false, List, [], ◌∷◌, ◌++◌}
use Rattle.std.specs.Prelude.{◌==◌, ◌||◌, if◌then◌else◌}
use Rattle.std.proofs.Math.Nat.{mul-mod_left}
use Rattle.std.proofs.lemmas.Bool.{eq-eqb, eqb-true}
use Rattle.ckc_base.specs.declared.arithmetic.Width.{Width}
use Rattle.ckc_base.specs.declared.arithmetic.Width.TheVariants.{Byte, Word}
use Rattle.ckc_base.specs.Memory.{width_bytes}
use Rattle.ckc_types.specs.declared.types.CType.{CType, CType-F, out-CType}
use Rattle.ckc_types.specs.declared.types.CType.TheVariants as ctype
use Rattle.ckc_types.specs.declared.types.MemberShape.{MemberShape}
use Rattle.ckc_types.specs.declared.types.Structs.{Structs}
use Rattle.ckc_types.specs.Layout.{align, align_by_form, members_of, struct_align, struct_size}
use Rattle.ckc_types.specs.Scalars.{align_of_form, scalar_align}
use Rattle.ckc_types.proofs.Aligns.{struct_align_at_most}
use Rattle.ckc_types.proofs.Forms.{align_of_struct, size_of_struct}
use Rattle.ckc_types.proofs.Offsets.{size_least}
use Rattle.ckc_typed.specs.Constants.{is_laid_out_form, size_of}
use Rattle.ckc_typed.specs.Types.{is_char_form, is_integer_form, is_pointer_form, is_scalar}
use Rattle.ckc_build_values.specs.Kinds.{width_of}
use Rattle.ckc_build_forms.specs.ckc_blame_steps.specs.ckc_blame_sound.specs.Cells.{IsPartIn, IsPart}
use Rattle.ckc_build_forms.specs.ckc_blame_steps.specs.ckc_blame_sound.proofs.Parts.{part_lies, scalar_member, sized_form}
use Rattle.ckc_source_causes.specs.Layouts.{Layout, IsInElement, IsCellOf, is_word}

different : {X : Type 0} → false ≡ true → X
different e = absurd cc

-- the sizes of the types of a text; those with a word in them are aligned as words are
abbrev pub layout_of : Structs → Layout
layout_of structs = record { size = size_of structs; is_wide = λ t. align structs t == 4 }

-- the alignment of a structure is that of its members at least
align_at_least : (front : List MemberShape) (m : MemberShape) (back : List MemberShape) → scalar_align m.ctype ≤ struct_align (front ++ m ∷ back)
align_at_least [] m back = omega arith
align_at_least (n ∷ front) m back = let rest = align_at_least front m back in omega arith

abbrev width_in : CType-F CType → Width
width_in f = if is_char_form f then Byte else Word

word_align : (f : CType-F CType) → (is_integer_form f || is_pointer_form f) ≡ true → Word ≡ width_in f → align_of_form f ≡ 4
word_align CType-F.Int h e = refl
word_align CType-F.Unsigned h e = refl
word_align CType-F.Char h e = absurd cc
word_align CType-F.Void h e = absurd cc
word_align (CType-F.Struct tag) h e = absurd cc
word_align (CType-F.Pointer k t) h e = refl

module _ (structs : Structs) where
  abbrev L : Layout
  L = layout_of structs

  -- ---- sizes

  struct_even : (tag : ℕ) → (struct_align (members_of structs tag) == 4) ≡ true → struct_size (members_of structs tag) % 4 ≡ 0
  struct_even tag e =
      let k = (size_least structs tag).multiple in
      let four : align structs (ctype.Struct tag) ≡ 4 = align_of_struct structs tag ∙ eqb-true (struct_align (members_of structs tag)) 4 e in
      ap (λ n. n % 4) (sym (size_of_struct structs tag) ∙ k.1 ∙ ap (λ n. k.0 * n) four) ∙ mul-mod_left k.0 4

  pub wide_size : (t : CType) → L.is_wide t ≡ true → L.size t % 4 ≡ 0
  wide_size t wide = by (out-CType t) wide
    where
      struct : (tag : ℕ) (b : Bool) → struct_size (members_of structs tag) % 4 ≡ 0 → (if b then struct_size (members_of structs tag) else 0) % 4 ≡ 0
      struct tag true e = e
      struct tag false e = refl

      by : (f : CType-F CType) → (align_by_form structs f == 4) ≡ true → sized_form structs f % 4 ≡ 0
      by CType-F.Int e = refl
      by CType-F.Unsigned e = refl
      by CType-F.Char e = absurd cc
      by CType-F.Void e = absurd cc
      by (CType-F.Struct tag) e = struct tag (is_laid_out_form structs (CType-F.Struct tag)) (struct_even tag e)
      by (CType-F.Pointer k u) e = refl

  -- ---- parts

  -- a structure with a word in it is wide
  pub member_wide : (tag : ℕ) (front : List MemberShape) (m : MemberShape) (back : List MemberShape) → members_of structs tag ≡ front ++ m ∷ back → scalar_align m.ctype ≡ 4
      → (struct_align (members_of structs tag) == 4) ≡ true
  member_wide tag front m back split four =
      let least = subst (λ ms. scalar_align m.ctype ≤ struct_align ms) (sym split) (align_at_least front m back) in
      let most = struct_align_at_most (members_of structs tag) in
      eq-eqb (struct_align (members_of structs tag)) 4 (omega (arith, least, most, four))

  part_wide : (t : CType) (o : ℕ) → 0 < L.size t → IsPart structs t o Word → L.is_wide t ≡ true
  part_wide t o sized part = by (out-CType t) refl sized part
    where
      wide : (f : CType-F CType) → out-CType t ≡ f → width_of t ≡ width_in f
      wide f e = ap width_in e

      by : (f : CType-F CType) → out-CType t ≡ f → 0 < sized_form structs f → IsPartIn structs t f o Word → (align_by_form structs f == 4) ≡ true
      by CType-F.Int is h q = refl
      by CType-F.Unsigned is h q = refl
      by CType-F.Char is h q = let other : Word ≡ Byte = q.1 ∙ wide CType-F.Char is in absurd cc
      by CType-F.Void is h q = absurd (omega (arith, h))
      by (CType-F.Struct tag) is h q =
          member_wide tag q.front q.member q.stands.back q.stands.split
          (word_align (out-CType q.member.ctype) (scalar_member structs tag q.front q.member q.stands h) q.wide)
      by (CType-F.Pointer k u) is h q = refl

  -- an element lies in itself
  pub whole : (t : CType) → IsInElement L t 0 (L.size t) (L.is_wide t)
  whole t = record { inside = omega arith; aligned = λ w. (w, refl) }

  -- what lies in an element that lies in another one
  pub part_cell : (t u : CType) (offset o : ℕ) (w : Width) → 0 < L.size t → IsPart structs t o w → IsInElement L u offset (L.size t) (L.is_wide t) → IsCellOf L u (offset + o) w
  part_cell t u offset o w sized part h =
      let lies = part_lies structs t o w sized part in
      record { inside = omega (arith, lies.within, h.inside); aligned = by w part lies.even }
    where
      by : (w : Width) → IsPart structs t o w → o % width_bytes w ≡ 0 → is_word w ≡ true → (L.is_wide u ≡ true) × ((offset + o) % 4 ≡ 0)
      by Byte q even e = different e
      by Word q even e = let a = h.aligned (part_wide t o sized q) in (a.0, omega (arith, a.1, even))

  -- an integer or a pointer is one access
  pub scalar_size : (t : CType) → is_scalar t ≡ true → (L.size t ≡ width_bytes (width_of t)) × (L.is_wide t ≡ is_word (width_of t))
  scalar_size t scalar = by (out-CType t) scalar
    where
      by : (f : CType-F CType) → (is_integer_form f || is_pointer_form f) ≡ true
          → (sized_form structs f ≡ width_bytes (width_in f)) × ((align_by_form structs f == 4) ≡ is_word (width_in f))
      by CType-F.Int e = (refl, refl)
      by CType-F.Unsigned e = (refl, refl)
      by CType-F.Char e = (refl, refl)
      by CType-F.Void e = absurd cc
      by (CType-F.Struct tag) e = absurd cc
      by (CType-F.Pointer k u) e = (refl, refl)

  pub scalar_sized : (t : CType) → is_scalar t ≡ true → 0 < L.size t
  scalar_sized t scalar = subst (λ n. 0 < n) (sym (scalar_size t scalar).0) (some (width_of t))
    where
      some : (w : Width) → 0 < width_bytes w
      some Byte = omega arith
      some Word = omega arith

  pub scalar_in : (t u : CType) (offset : ℕ) → is_scalar t ≡ true → IsCellOf L u offset (width_of t) → IsInElement L u offset (L.size t) (L.is_wide t)
  scalar_in t u offset scalar h =
      let is = scalar_size t scalar in
      subst (λ n. IsInElement L u offset n (L.is_wide t)) (sym is.0) (subst (λ b. IsInElement L u offset (width_bytes (width_of t)) b) (sym is.1) h)
