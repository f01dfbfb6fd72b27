-- What expressions read of an element is it or a member of it.
use Rattle.std.proofs.Common.{◌≡◌, ◌≢◌, ◌∙◌, sym, ap, subst, refl, ℕ, List, [], ◌∷◌, ◌++◌, rules, arith}
use Rattle.std.specs.Prelude.{All, Bool, true, false, if◌then◌else◌, ◌==◌, ◌||◌, Option, Some, None, find}
use Rattle.std.specs.Option.{option_map}
use Rattle.std.proofs.lemmas.List.Elements.{All-nil, All-cons}
use Rattle.std.proofs.lemmas.Bool.{eqb-true}
use Rattle.std.proofs.lemmas.Bool.Decides.{nat_tests}
use Rattle.ckc_types.specs.declared.types.CType.{CType, CType-F, out-CType, the_lemmas}
use Rattle.ckc_types.specs.declared.types.CType.TheVariants as ctype
use Rattle.ckc_types.specs.declared.types.MemberShape.{MemberShape}
use Rattle.ckc_types.specs.declared.types.Structs.{Structs}
use Rattle.ckc_types.specs.Layout.{members_of}
use Rattle.ckc_syntax.specs.declared.tree.Name.TheVariants as name
use Rattle.ckc_typed.specs.Types.{is_scalar, is_integer_form, is_pointer_form}
use Rattle.ckc_typed.specs.Environment.{is_member_named, member_type}
use Rattle.ckc_build_values.specs.Kinds.{width_of}
use Rattle.ckc_build_values.specs.Members.{offset_of}
use Rattle.ckc_blame_sound.specs.Cells.{IsPartIn, IsPart}
use Rattle.ckc_blame_sound.proofs.Lists.{all_by}

-- the first element that passes a test, with those in front of it
record IsFirst (p : MemberShape → Bool) (ms : List MemberShape) (m : MemberShape) : Type 0 where
  pub front : List MemberShape
  pub back : List MemberShape
  pub split : ms ≡ front ++ m ∷ back
  pub fails : All (λ n. p n ≡ false) front
  pub passes : p m ≡ true

first_found : (p : MemberShape → Bool) (ms : List MemberShape) (m : MemberShape) → find p ms ≡ Some m → IsFirst p ms m
first_found p [] m e = absurd cc
first_found p (n ∷ ms) m e = by (p n) refl e (λ f. first_found p ms m f)
  where
    by : (b : Bool) → p n ≡ b → (if b then Some n else find p ms) ≡ Some m → (find p ms ≡ Some m → IsFirst p ms m) → IsFirst p (n ∷ ms) m
    by true is f later =
        let same : n ≡ m = cc in
        record { front = []; back = ms; split = ap (λ x. x ∷ ms) same; fails = All-nil (λ n. p n ≡ false); passes = subst (λ x. p x ≡ true) same is }
    by false is f later =
        let h = later f in
        record { front = n ∷ h.front; back = h.back; split = ap (λ xs. n ∷ xs) h.split; fails = All-cons (λ n. p n ≡ false) n h.front is h.fails; passes = h.passes }

itself : (k : ℕ) → (k == k) ≡ true
itself k = grind (arith, nat_tests)

different : false ≡ true → ⊥
different e = absurd cc

others : (k : ℕ) (m : MemberShape) (front : List MemberShape) → k ≡ m.name → All (λ (n : MemberShape). is_member_named (name.Member k) n.name ≡ false) front → All (λ (n : MemberShape). n.name ≢ m.name) front
others k m front e h =
    all_by (λ (n : MemberShape). is_member_named (name.Member k) n.name ≡ false) (λ (n : MemberShape). n.name ≢ m.name)
    (λ n f same. let g : (k == n.name) ≡ true = subst (λ j. (k == j) ≡ true) (e ∙ sym same) (itself k) in different (sym f ∙ g)) front h

struct_form : (tag : ℕ) → out-CType (ctype.Struct tag) ≡ CType-F.Struct tag
struct_form tag = search (rules, the_lemmas)

named : (structs : Structs) (tag k : ℕ) (t : CType) (o : Option MemberShape) → find (λ (m : MemberShape). is_member_named (name.Member k) m.name) (members_of structs tag) ≡ o
    → option_map (λ (m : MemberShape). m.ctype) o ≡ Some t → IsPart structs (ctype.Struct tag) (offset_of structs tag k) (width_of t)
named structs tag k t None is e = absurd cc
named structs tag k t (Some m) is e =
    let h = first_found (λ (x : MemberShape). is_member_named (name.Member k) x.name) (members_of structs tag) m is in
    let name_is : k ≡ m.name = eqb-true k m.name h.passes in
    let type_is : m.ctype ≡ t = cc in
    subst (λ (f : CType-F CType). IsPartIn structs (ctype.Struct tag) f (offset_of structs tag k) (width_of t)) (sym (struct_form tag)) (record {
      front = h.front;
      member = m;
      stands = record { back = h.back; split = h.split; new = others k m h.front name_is h.fails };
      there = ap (offset_of structs tag) name_is;
      wide = ap width_of (sym type_is);
    })

pub member_part : (structs : Structs) (tag k : ℕ) (t : CType) → member_type structs tag (name.Member k) ≡ Some t → IsPart structs (ctype.Struct tag) (offset_of structs tag k) (width_of t)
member_part structs tag k t e = named structs tag k t (find (λ (m : MemberShape). is_member_named (name.Member k) m.name) (members_of structs tag)) refl e

form_part : (structs : Structs) (t : CType) (f : CType-F CType) → (is_integer_form f || is_pointer_form f) ≡ true → IsPartIn structs t f 0 (width_of t)
form_part structs t CType-F.Int e = (refl, refl)
form_part structs t CType-F.Unsigned e = (refl, refl)
form_part structs t CType-F.Char e = (refl, refl)
form_part structs t CType-F.Void e = absurd cc
form_part structs t (CType-F.Struct tag) e = absurd cc
form_part structs t (CType-F.Pointer kind to) e = (refl, refl)

pub scalar_part : (structs : Structs) (t : CType) → is_scalar t ≡ true → IsPart structs t 0 (width_of t)
scalar_part structs t e = form_part structs t (out-CType t) e
