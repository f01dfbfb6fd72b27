-- Where members begin and end.
use Rattle.std.proofs.Common.{◌≡◌, ◌≢◌, refl, ap, sym, subst, ◌∙◌, ℕ, ◌+◌, ◌<◌, ◌≤◌, List, [], ◌∷◌, ◌++◌, eq-eqb, arith}
use Rattle.std.specs.Prelude.{◌==◌}
use Rattle.std.specs.List.{All}
use Rattle.std.proofs.lemmas.Bool.{cond-true, cond-false, ne_eqb}
use Rattle.std.proofs.lemmas.List.Elements.{All-head, All-tail}
use Rattle.ckc_types.specs.declared.types.CType.{CType, CType-F, out-CType}
use Rattle.ckc_types.specs.declared.types.CType.TheVariants as ctype
use Rattle.ckc_types.specs.declared.types.MemberShape.{MemberShape}
use Rattle.ckc_types.specs.declared.types.Structs.{Structs}
use Rattle.ckc_types.specs.Scalars.{align_of_form, scalar_align, scalar_size}
use Rattle.ckc_types.specs.Layout.{align, end_of, members_of, offset, size, start, start_of, struct_align}
use Rattle.ckc_types.specs.Multiples.{IsLeastMultiple}
use Rattle.ckc_types.specs.Places.{Stands}
use Rattle.ckc_types.proofs.Aligns.{struct_align_positive}
use Rattle.ckc_types.proofs.Forms.{align_of_struct, size_of_struct}
use Rattle.ckc_types.proofs.Multiples.{next_is_least}

form_positive : (form : CType-F CType) → 0 < align_of_form form
form_positive CType-F.Int = omega arith
form_positive CType-F.Unsigned = omega arith
form_positive CType-F.Char = omega arith
form_positive CType-F.Void = omega arith
form_positive (CType-F.Struct tag) = omega arith
form_positive (CType-F.Pointer kind to) = omega arith

start_is_least : (at : ℕ) (m : MemberShape) → IsLeastMultiple at (scalar_align m.ctype) (start at m)
start_is_least at m = next_is_least at (scalar_align m.ctype) (form_positive (out-CType m.ctype))

end_along : (at : ℕ) (front back : List MemberShape) → end_of at (front ++ back) ≡ end_of (end_of at front) back
end_along at [] back = refl
end_along at (n ∷ front) back = end_along (start at n + scalar_size n.ctype) front back

-- members that follow end no earlier
end_grows : (at : ℕ) (ms : List MemberShape) → at ≤ end_of at ms
end_grows at [] = omega arith
end_grows at (m ∷ ms) =
    let here = (start_is_least at m).reaches in
    let rest = end_grows (start at m + scalar_size m.ctype) ms in
    omega arith

start_behind : (at : ℕ) (front back : List MemberShape) (m : MemberShape) → All (λ n. n.name ≢ m.name) front →
    start_of m.name at (front ++ m ∷ back) ≡ start (end_of at front) m
start_behind at [] back m new = cond-true (m.name == m.name) _ _ (eq-eqb m.name m.name refl)
start_behind at (n ∷ front) back m new =
    let other = All-head (λ n. n.name ≢ m.name) n front new in
    let rest = All-tail (λ n. n.name ≢ m.name) n front new in
    cond-false (n.name == m.name) _ _ (ne_eqb n.name m.name other)
    ∙ start_behind (start at n + scalar_size n.ctype) front back m rest

module _ (structs : Structs) (tag : ℕ) where
  pub offset_is : (front : List MemberShape) (m : MemberShape) → Stands structs tag front m → offset structs tag m.name ≡ start (end_of 0 front) m
  offset_is front m s = ap (start_of m.name 0) s.split ∙ start_behind 0 front s.back m s.new

  pub begins : (front : List MemberShape) (m : MemberShape) → Stands structs tag front m →
      IsLeastMultiple (end_of 0 front) (scalar_align m.ctype) (offset structs tag m.name)
  begins front m s = subst (IsLeastMultiple (end_of 0 front) (scalar_align m.ctype)) (sym (offset_is front m s)) (start_is_least (end_of 0 front) m)

  pub ends : (front : List MemberShape) (m : MemberShape) → Stands structs tag front m →
      end_of 0 (front ++ m ∷ []) ≡ offset structs tag m.name + scalar_size m.ctype
  ends front m s = end_along 0 front (m ∷ []) ∙ ap (λ at. at + scalar_size m.ctype) (sym (offset_is front m s))

  -- what stands after a member begins where it ends, or later
  ends_before : (front rest : List MemberShape) (m : MemberShape) → Stands structs tag front m →
      offset structs tag m.name + scalar_size m.ctype ≤ end_of 0 (front ++ m ∷ rest)
  ends_before front rest m s =
      let is = offset_is front m s in
      let along = end_along 0 front (m ∷ rest) in
      let grows = end_grows (start (end_of 0 front) m + scalar_size m.ctype) rest in
      omega arith

  pub apart : (front between : List MemberShape) (m n : MemberShape) → Stands structs tag front m → Stands structs tag (front ++ m ∷ between) n →
      offset structs tag m.name + scalar_size m.ctype ≤ offset structs tag n.name
  apart front between m n s t =
      let first = ends_before front between m s in
      let second = (begins (front ++ m ∷ between) n t).reaches in
      omega arith

  pub size_least : IsLeastMultiple (end_of 0 (members_of structs tag)) (align structs (ctype.Struct tag)) (size structs (ctype.Struct tag))
  size_least =
      let ms = members_of structs tag in
      let positive : 0 < struct_align ms = omega (arith, struct_align_positive ms) in
      let least = next_is_least (end_of 0 ms) (struct_align ms) positive in
      subst (λ a. IsLeastMultiple (end_of 0 ms) a (size structs (ctype.Struct tag))) (sym (align_of_struct structs tag))
      (subst (IsLeastMultiple (end_of 0 ms) (struct_align ms)) (sym (size_of_struct structs tag)) least)

  pub within : (front : List MemberShape) (m : MemberShape) → Stands structs tag front m →
      offset structs tag m.name + scalar_size m.ctype ≤ size structs (ctype.Struct tag)
  within front m s =
      let before = ends_before front s.back m s in
      let is = ap (end_of 0) s.split in
      let reaches = size_least.reaches in
      omega arith
