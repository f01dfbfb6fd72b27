-- A member that the tests find is there, in a structure that has a layout.
use Rattle.std.proofs.Common.{◌≡◌, ℕ, zero, suc, ◌<◌, ◌≤◌, Bool, true, false, List, [], ◌∷◌, length, refl, sym, ◌∙◌, arith, rules}
use Rattle.std.specs.Prelude.{◌&&◌, ◌||◌, ◌==◌, nat_lt, nat_le, is_some, slice_get, slice_index_or, if◌then◌else◌}
use Rattle.std.specs.List.{Contains, list_any, list_all}
use Rattle.std.proofs.lemmas.Bool.{eqb-true}
use Rattle.std.proofs.lemmas.Bool.Decides.{nat_tests}
use Rattle.std.proofs.lemmas.List.Sums.{AllPass-from_list_all}
use Rattle.ckc_types.specs.declared.types.CType.{CType, CType-F, out-CType, the_lemmas}
use Rattle.ckc_types.specs.declared.types.CType.TheVariants as ctype
use Rattle.ckc_types.specs.declared.types.MemberShape.{MemberShape}
use Rattle.ckc_types.specs.declared.types.Structs.{Structs}
use Rattle.ckc_types.specs.Scalars.{IsScalarForm}
use Rattle.ckc_types.specs.Layout.{members_of}
use Rattle.ckc_types.specs.LaidOut.{IsStruct, HasMember}
use Rattle.ckc_typed.specs.Types.{is_scalar, is_integer_form, is_pointer_form}
use Rattle.ckc_typed.specs.Constants.{is_laid_out, size_of}
use Rattle.ckc_build_values.specs.Members.{has_member}

false_is_true : ◌≡◌ {A = Bool} false true → ⊥
false_is_true e = cc

both : (a b : Bool) → (a && b) ≡ true → (a ≡ true) × (b ≡ true)
both true true e = (refl, refl)
both true false e = absurd (false_is_true e)
both false true e = absurd (false_is_true e)
both false false e = absurd (false_is_true e)

scalar_form : (f : CType-F CType) → (is_integer_form f || is_pointer_form f) ≡ true → IsScalarForm f
scalar_form CType-F.Int e = tt
scalar_form CType-F.Unsigned e = tt
scalar_form CType-F.Char e = tt
scalar_form CType-F.Void e = absurd (false_is_true e)
scalar_form (CType-F.Struct tag) e = absurd (false_is_true e)
scalar_form (CType-F.Pointer k t) e = tt

abbrev Found : ℕ → List MemberShape → Type 0
Found k ms = (m : MemberShape) × Contains ms m × (m.name ≡ k)

found_by : (k : ℕ) (m : MemberShape) (ms : List MemberShape) (b : Bool) → (m.name == k) ≡ b → (b || list_any (λ n. n.name == k) ms) ≡ true → (list_any (λ n. n.name == k) ms ≡ true → Found k ms) → Found k (m ∷ ms)
found_by k m ms true e h f = (m, (zero, omega arith, refl), eqb-true m.name k e)
found_by k m ms false e h f =
    let q : Found k ms = f h in
    (q.0, (suc q.1.0, (let l : q.1.0 < length ms = q.1.1 in omega arith), q.1.2), q.2)

found : (k : ℕ) (ms : List MemberShape) → list_any (λ n. n.name == k) ms ≡ true → Found k ms
found k [] e = absurd (false_is_true e)
found k (m ∷ ms) e = found_by k m ms (m.name == k) refl e (found k ms)

positive : (b : Bool) (n : ℕ) → nat_lt 0 (if b then n else 0) ≡ true → b ≡ true
positive true n e = refl
positive false n e = absurd (false_is_true e)

more_than_none : (n : ℕ) → nat_lt 0 n ≡ true → 0 < n
more_than_none n e = grind (arith, nat_tests)

at_most : (n m : ℕ) → nat_le n m ≡ true → n ≤ m
at_most n m e = grind (arith, nat_tests)

module _ (structs : Structs) (tag : ℕ) where
  abbrev tests : Bool
  tests = is_some (slice_get structs.shapes tag) && (nat_lt 0 (length (members_of structs tag)) && (nat_le (length (members_of structs tag)) 16384 && list_all (λ m. is_scalar m.ctype) (members_of structs tag)))

  tests_are : is_laid_out structs (ctype.Struct tag) ≡ tests
  tests_are = search (rules, the_lemmas)

  struct_of : tests ≡ true → IsStruct structs tag
  struct_of e =
      let a = both (is_some (slice_get structs.shapes tag)) _ e in
      let b = both (nat_lt 0 (length (members_of structs tag))) _ a.1 in
      let c = both (nat_le (length (members_of structs tag)) 16384) _ b.1 in
      record {
        declared = a.0;
        some = more_than_none _ b.0;
        few = at_most _ _ c.0;
        scalars = λ k d l. scalar_form (out-CType (slice_index_or (members_of structs tag) k d).ctype) (AllPass-from_list_all (λ (m : MemberShape). is_scalar m.ctype) (members_of structs tag) c.1 k d l);
      }

  pub has : (k : ℕ) → has_member structs tag k ≡ true → HasMember structs tag k
  has k e =
      let a = both (nat_lt 0 (size_of structs (ctype.Struct tag))) _ e in
      record {
        struct = struct_of (sym tests_are ∙ positive (is_laid_out structs (ctype.Struct tag)) _ a.0);
        named = found k (members_of structs tag) a.1;
      }
