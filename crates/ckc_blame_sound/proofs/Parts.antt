-- Where a part of an element lies in it.
use Rattle.std.proofs.Common.{◌≡◌, ℕ, ◌+◌, ◌*◌, ◌%◌, ◌≤◌, ◌<◌, ◌==◌, List, [], ◌∷◌, ◌++◌, length, refl, sym, ◌∙◌, ap, subst, arith, rules, eq-eqb}
use Rattle.std.specs.Prelude.{Bool, true, false, ◌&&◌, ◌||◌, if◌then◌else◌, nat_le, nat_lt, slice_get, is_some}
use Rattle.std.specs.List.{list_any, list_all}
use Rattle.std.proofs.Math.Nat.{mul-mod_left}
use Rattle.std.proofs.lemmas.Bool.{and_parts, lt-ltb}
use Rattle.ckc_base.specs.declared.arithmetic.Width.{Width}
use Rattle.ckc_base.specs.declared.arithmetic.Width.TheVariants.{Byte, Word}
use Rattle.ckc_base.specs.Memory.{width_bytes}
use Rattle.ckc_types.specs.declared.types.CType.{CType, CType-F, out-CType, the_lemmas}
use Rattle.ckc_types.specs.declared.types.CType.TheVariants as ctype
use Rattle.ckc_types.specs.declared.types.MemberShape.{MemberShape}
use Rattle.ckc_types.specs.declared.types.Structs.{Structs}
use Rattle.ckc_types.specs.Scalars.{size_of_form, align_of_form, scalar_align, scalar_size}
use Rattle.ckc_types.specs.Layout.{align, members_of, offset, size, size_by_form, struct_align}
use Rattle.ckc_types.specs.Places.{Stands}
use Rattle.ckc_types.proofs.Aligns.{struct_align_at_most}
use Rattle.ckc_types.proofs.Forms.{align_of_struct, size_of_struct}
use Rattle.ckc_types.proofs.Offsets.{begins, within, size_least}
use Rattle.ckc_typed.specs.Constants.{is_laid_out_form, size_of}
use Rattle.ckc_typed.specs.Types.{is_char_form, is_integer_form, is_pointer_form, is_scalar}
use Rattle.ckc_build_values.specs.Kinds.{width_of}
use Rattle.ckc_build_values.specs.Members.{offset_of}
use Rattle.ckc_blame_sound.specs.Cells.{IsOfMember, IsPartIn, IsPart}

-- how a part lies in an element of a size: in it, at a multiple of its width, as the size is one
pub record Lies (size offset : ℕ) (width : Width) : Type 0 where
  pub within : offset + width_bytes width ≤ size
  pub even : offset % width_bytes width ≡ 0
  pub whole : size % width_bytes width ≡ 0

-- ---- integers and pointers

abbrev pub form_width : CType-F CType → Width
form_width f = if is_char_form f then Byte else Word

form_size : (f : CType-F CType) → (is_integer_form f || is_pointer_form f) ≡ true → width_bytes (form_width f) ≡ size_of_form f
form_size CType-F.Int h = refl
form_size CType-F.Unsigned h = refl
form_size CType-F.Char h = refl
form_size CType-F.Void h = absurd cc
form_size (CType-F.Struct tag) h = absurd cc
form_size (CType-F.Pointer k t) h = refl

form_align : (f : CType-F CType) → (is_integer_form f || is_pointer_form f) ≡ true → width_bytes (form_width f) ≡ align_of_form f
form_align CType-F.Int h = refl
form_align CType-F.Unsigned h = refl
form_align CType-F.Char h = refl
form_align CType-F.Void h = absurd cc
form_align (CType-F.Struct tag) h = absurd cc
form_align (CType-F.Pointer k t) h = refl

scalar_lies : (size : ℕ) (wide : Width) (offset : ℕ) (width : Width) → size ≡ width_bytes wide → offset ≡ 0 → width ≡ wide → Lies size offset width
scalar_lies size Byte offset width s z w =
    subst (λ v. Lies size offset v) (sym w) (record { within = omega arith; even = omega arith; whole = omega arith })
scalar_lies size Word offset width s z w =
    subst (λ v. Lies size offset v) (sym w) (record { within = omega arith; even = omega arith; whole = omega arith })

-- ---- members

struct_form : (tag : ℕ) → out-CType (ctype.Struct tag) ≡ CType-F.Struct tag
struct_form tag = search (rules, the_lemmas)

any_here : {X : Type 0} (p : X → Bool) (front : List X) (m : X) (back : List X) → p m ≡ true → list_any p (front ++ m ∷ back) ≡ true
any_here p [] m back h = ap (λ b. b || list_any p back) h
any_here p (x ∷ front) m back h = by (p x) (any_here p front m back h)
  where
    by : (b : Bool) → list_any p (front ++ m ∷ back) ≡ true → (b || list_any p (front ++ m ∷ back)) ≡ true
    by true e = refl
    by false e = e

all_here : {X : Type 0} (p : X → Bool) (front : List X) (m : X) (back : List X) → list_all p (front ++ m ∷ back) ≡ true → p m ≡ true
all_here p [] m back h = (and_parts (p m) (list_all p back) h).0
all_here p (x ∷ front) m back h = all_here p front m back (and_parts (p x) (list_all p (front ++ m ∷ back)) h).1

align_at_least : (front : List MemberShape) (m : MemberShape) (back : List MemberShape) → scalar_align m.ctype ≤ struct_align (front ++ m ∷ back)
align_at_least [] m back = omega arith
align_at_least (n ∷ front) m back = let rest = align_at_least front m back in omega arith

multiple_even : (width : Width) (x k y : ℕ) → width_bytes width ≡ y → x ≡ k * y → x % width_bytes width ≡ 0
multiple_even width x k y e f = ap (λ z. x % z) e ∙ ap (λ z. z % y) f ∙ mul-mod_left k y

module _ (structs : Structs) (tag : ℕ) where
  abbrev tested : Bool
  tested = is_laid_out_form structs (CType-F.Struct tag)

  -- a structure that has a size
  abbrev pub HasSize : Type 0
  HasSize = 0 < (if tested then size_by_form structs (CType-F.Struct tag) else 0)

  laid_out : HasSize → tested ≡ true
  laid_out h = by tested h
    where
      by : (b : Bool) → 0 < (if b then size_by_form structs (CType-F.Struct tag) else 0) → b ≡ true
      by true h = refl
      by false h = absurd (omega arith)

  struct_sized : HasSize → size_of structs (ctype.Struct tag) ≡ size structs (ctype.Struct tag)
  struct_sized h =
      ap (λ f. if is_laid_out_form structs f then size structs (ctype.Struct tag) else 0) (struct_form tag)
      ∙ ap (λ b. if b then size structs (ctype.Struct tag) else 0) (laid_out h)

  struct_positive : HasSize → 0 < size_of structs (ctype.Struct tag)
  struct_positive h = subst (λ f. 0 < (if is_laid_out_form structs f then size_by_form structs f else 0)) (sym (struct_form tag)) h

  all_scalars : HasSize → list_all (λ m. is_scalar m.ctype) (members_of structs tag) ≡ true
  all_scalars h =
      let ms = members_of structs tag in
      let p = and_parts (is_some (slice_get structs.shapes tag)) (nat_lt 0 (length ms) && (nat_le (length ms) 16384 && list_all (λ m. is_scalar m.ctype) ms)) (laid_out h) in
      let q = and_parts (nat_lt 0 (length ms)) (nat_le (length ms) 16384 && list_all (λ m. is_scalar m.ctype) ms) p.1 in
      (and_parts (nat_le (length ms) 16384) (list_all (λ m. is_scalar m.ctype) ms) q.1).1

  module _ (front : List MemberShape) (m : MemberShape) (s : Stands structs tag front m) where
    pub scalar_member : HasSize → is_scalar m.ctype ≡ true
    scalar_member h =
        all_here (λ n. is_scalar n.ctype) front m s.back
        (subst (λ ms. list_all (λ n. is_scalar n.ctype) ms ≡ true) s.split (all_scalars h))

    -- a member that is there is so by its offset
    pub offset_there : HasSize → offset_of structs tag m.name ≡ offset structs tag m.name
    offset_there h =
        let named = subst (λ ms. list_any (λ n. n.name == m.name) ms ≡ true) (sym s.split)
        (any_here (λ n. n.name == m.name) front m s.back (eq-eqb m.name m.name refl)) in
        let sized = lt-ltb 0 (size_of structs (ctype.Struct tag)) (struct_positive h) in
        ap (λ b. if b && list_any (λ n. n.name == m.name) (members_of structs tag) then offset structs tag m.name else 0) sized
        ∙ ap (λ b. if b then offset structs tag m.name else 0) named

    pub member_size : HasSize → width_bytes (width_of m.ctype) ≡ scalar_size m.ctype
    member_size h = form_size (out-CType m.ctype) (scalar_member h)

    member_align : HasSize → width_bytes (width_of m.ctype) ≡ scalar_align m.ctype
    member_align h = form_align (out-CType m.ctype) (scalar_member h)

    struct_even : (width : Width) → width_bytes width ≡ scalar_align m.ctype → size structs (ctype.Struct tag) % width_bytes width ≡ 0
    struct_even Byte e = omega arith
    struct_even Word e =
        let k = (size_least structs tag).multiple in
        let most = struct_align_at_most (members_of structs tag) in
        let least = subst (λ ms. scalar_align m.ctype ≤ struct_align ms) (sym s.split) (align_at_least front m s.back) in
        let is : align structs (ctype.Struct tag) ≡ struct_align (members_of structs tag) = align_of_struct structs tag in
        multiple_even Word (size structs (ctype.Struct tag)) k.0 (align structs (ctype.Struct tag)) (omega arith) k.1

    pub member_lies : HasSize → Lies (size structs (ctype.Struct tag)) (offset structs tag m.name) (width_of m.ctype)
    member_lies h =
        let inside = within structs tag front m s in
        let wide = member_size h in
        let k = (begins structs tag front m s).multiple in
        record {
          within = omega arith;
          even = multiple_even (width_of m.ctype) (offset structs tag m.name) k.0 (scalar_align m.ctype) (member_align h) k.1;
          whole = struct_even (width_of m.ctype) (member_align h);
        }

    of_member_lies : HasSize → (at : ℕ) (width : Width) → at ≡ offset_of structs tag m.name → width ≡ width_of m.ctype
        → Lies (size structs (ctype.Struct tag)) at width
    of_member_lies h at width e w =
        subst (λ v. Lies (size structs (ctype.Struct tag)) at v) (sym w)
        (subst (λ o. Lies (size structs (ctype.Struct tag)) o (width_of m.ctype)) (sym (e ∙ offset_there h)) (member_lies h))

-- ---- parts

-- the size of a type by its form
abbrev pub sized_form : Structs → CType-F CType → ℕ
sized_form structs f = if is_laid_out_form structs f then size_by_form structs f else 0

struct_lies : (structs : Structs) (tag offset : ℕ) (width : Width) → HasSize structs tag → IsOfMember structs tag offset width
    → Lies (sized_form structs (CType-F.Struct tag)) offset width
struct_lies structs tag offset width h p =
    let is : sized_form structs (CType-F.Struct tag) ≡ size structs (ctype.Struct tag) =
    ap (λ b. if b then size_by_form structs (CType-F.Struct tag) else 0) (laid_out structs tag h) ∙ sym (size_of_struct structs tag) in
    subst (λ n. Lies n offset width) (sym is) (of_member_lies structs tag p.front p.member p.stands h offset width p.there p.wide)

pub part_lies : (structs : Structs) (t : CType) (offset : ℕ) (width : Width) → 0 < size_of structs t → IsPart structs t offset width
    → Lies (size_of structs t) offset width
part_lies structs t offset width h part = by (out-CType t) refl h part
  where
    wide : (f : CType-F CType) → out-CType t ≡ f → width_of t ≡ form_width f
    wide f e = ap form_width e

    by : (f : CType-F CType) → out-CType t ≡ f → 0 < sized_form structs f → IsPartIn structs t f offset width → Lies (sized_form structs f) offset width
    by CType-F.Int e h p = scalar_lies 4 Word offset width refl p.0 (p.1 ∙ wide CType-F.Int e)
    by CType-F.Unsigned e h p = scalar_lies 4 Word offset width refl p.0 (p.1 ∙ wide CType-F.Unsigned e)
    by CType-F.Char e h p = scalar_lies 1 Byte offset width refl p.0 (p.1 ∙ wide CType-F.Char e)
    by CType-F.Void e h p = absurd (omega arith)
    by (CType-F.Struct tag) e h p = struct_lies structs tag offset width h p
    by (CType-F.Pointer k u) e h p = scalar_lies 4 Word offset width refl p.0 (p.1 ∙ wide (CType-F.Pointer k u) e)
