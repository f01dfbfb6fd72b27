-- The size of a type is less than 2 ^ 31.
use Rattle.std.proofs.Common.{◌≡◌, ℕ, ◌+◌, ◌-◌, ◌*◌, ◌%◌, ◌<◌, ◌≤◌, ◌^◌, Bool, true, false, List, [], ◌∷◌, length, refl, arith}
use Rattle.std.specs.Prelude.{nat_lt, nat_le, ◌&&◌, if◌then◌else◌, slice_get, is_some}
use Rattle.std.proofs.Math.Nat.{mod-lt}
use Rattle.std.specs.List.{list_all}
use Rattle.std.specs.Int.{next_multiple_of}
use Rattle.std.proofs.lemmas.Bool.Decides.{nat_tests}
use Rattle.ckc_types.specs.declared.types.CType.{CType, CType-F, out-CType}
use Rattle.ckc_types.specs.declared.types.MemberShape.{MemberShape}
use Rattle.ckc_types.specs.declared.types.Structs.{Structs}
use Rattle.ckc_types.specs.Layout.{members_of, start, end_of, struct_align, struct_size, size_by_form}
use Rattle.ckc_types.specs.Scalars.{size_of_form, align_of_form, scalar_size, scalar_align}
use Rattle.ckc_types.proofs.Aligns.{struct_align_positive, struct_align_at_most}
use Rattle.ckc_typed.specs.Types.{is_scalar}
use Rattle.ckc_typed.specs.Constants.{is_laid_out_form, size_of}

-- the next multiple of at most 4 is less than 4 away
next_near : (x y : ℕ) → 0 < y → y ≤ 4 → next_multiple_of x y ≤ x + 4
next_near x y h k = let less : (y - x % y) % y < y = mod-lt (y - x % y) h in omega (arith, less, k)

form_size : (form : CType-F CType) → size_of_form form ≤ 4
form_size CType-F.Int = omega arith
form_size CType-F.Unsigned = omega arith
form_size CType-F.Char = omega arith
form_size CType-F.Void = omega arith
form_size (CType-F.Struct tag) = omega arith
form_size (CType-F.Pointer kind to) = omega arith

form_align : (form : CType-F CType) → (0 < align_of_form form) × (align_of_form form ≤ 4)
form_align CType-F.Int = (omega arith, omega arith)
form_align CType-F.Unsigned = (omega arith, omega arith)
form_align CType-F.Char = (omega arith, omega arith)
form_align CType-F.Void = (omega arith, omega arith)
form_align (CType-F.Struct tag) = (omega arith, omega arith)
form_align (CType-F.Pointer kind to) = (omega arith, omega arith)

-- a structure is at most 8 bytes a member long
ends : (at : ℕ) (ms : List MemberShape) → end_of at ms ≤ at + 8 * length ms
ends at [] = omega arith
ends at (m ∷ ms) =
    let a = form_align (out-CType m.ctype) in
    let near : start at m ≤ at + 4 = next_near at (scalar_align m.ctype) a.0 a.1 in
    let small : scalar_size m.ctype ≤ 4 = form_size (out-CType m.ctype) in
    let rest : end_of (start at m + scalar_size m.ctype) ms ≤ start at m + scalar_size m.ctype + 8 * length ms = ends (start at m + scalar_size m.ctype) ms in
    omega (arith, near, small, rest)

struct_small : (ms : List MemberShape) → length ms ≤ 16384 → struct_size ms < 2 ^ 31
struct_small ms h =
    let e = ends 0 ms in
    let near : struct_size ms ≤ end_of 0 ms + 4 = next_near (end_of 0 ms) (struct_align ms) (struct_align_positive ms) (struct_align_at_most ms) in
    omega (arith, e, near, h)

both : (a b : Bool) → (a && b) ≡ true → (a ≡ true) × (b ≡ true)
both true b e = (refl, e)
both false b e = absurd cc

size_small : (structs : Structs) (t : CType) (form : CType-F CType) (laid : Bool) → is_laid_out_form structs form ≡ laid → (if laid then size_by_form structs form else 0) < 2 ^ 31
size_small structs t form false e = omega arith
size_small structs t CType-F.Int true e = omega arith
size_small structs t CType-F.Unsigned true e = omega arith
size_small structs t CType-F.Char true e = omega arith
size_small structs t CType-F.Void true e = omega arith
size_small structs t (CType-F.Pointer kind to) true e = omega arith
size_small structs t (CType-F.Struct tag) true e =
    let a = both (is_some (slice_get structs.shapes tag)) _ e in
    let b = both (nat_lt 0 (length (members_of structs tag))) _ a.1 in
    let c = both (nat_le (length (members_of structs tag)) 16384) (list_all (λ (m : MemberShape). is_scalar m.ctype) (members_of structs tag)) b.1 in
    struct_small (members_of structs tag) (few (length (members_of structs tag)) c.0)
  where
    few : (n : ℕ) → nat_le n 16384 ≡ true → n ≤ 16384
    few n f = grind (arith, nat_tests)

pub sizes_are_small : (structs : Structs) (t : CType) → size_of structs t < 2 ^ 31
sizes_are_small structs t = size_small structs t (out-CType t) (is_laid_out_form structs (out-CType t)) refl

pub sizes_are_words : (structs : Structs) (t : CType) → size_of structs t < 2 ^ 32
sizes_are_words structs t = let small = sizes_are_small structs t in omega (arith, small)
