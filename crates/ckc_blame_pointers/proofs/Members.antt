-- A member of a structure is a part of it.
use Rattle.std.proofs.Common.{◌≡◌, sym, ap, subst, ◌∙◌, ℕ, ◌+◌, rules, arith}
use Rattle.std.specs.Prelude.{Some}
use Rattle.ckc_types.specs.declared.types.CType.{CType, CType-F, out-CType, the_lemmas}
use Rattle.ckc_types.specs.declared.types.CType.TheVariants as ctype
use Rattle.ckc_types.specs.declared.types.Structs.{Structs}
use Rattle.ckc_syntax.specs.declared.tree.Name.{Name}
use Rattle.ckc_syntax.specs.declared.tree.Name.TheVariants as name
use Rattle.ckc_typed.specs.Layouts.{member_number}
use Rattle.ckc_typed.specs.Operands.{member_in, dot_type}
use Rattle.ckc_build_values.specs.Kinds.{width_of, tag_in, tag_of}
use Rattle.ckc_build_values.specs.Members.{offset_of}
use Rattle.ckc_blame_sound.specs.Cells.{IsPart, IsPartIn}
use Rattle.ckc_blame_sound.proofs.Accesses.{member_part}

struct_form : (tag : ℕ) → out-CType (ctype.Struct tag) ≡ CType-F.Struct tag
struct_form tag = search (rules, the_lemmas)

pub member_there : (structs : Structs) (u : CType) (n : Name) (t : CType) (k : ℕ) → n ≡ name.Member k → dot_type structs u n ≡ Some t
    → IsPart structs u (offset_of structs (tag_of u) (member_number n)) (width_of t)
member_there structs u n t k named there =
    subst (λ n. IsPart structs u (offset_of structs (tag_of u) (member_number n)) (width_of t)) (sym named) (by (out-CType u) (sym (ap (dot_type structs u) named) ∙ there))
  where
    by : (f : CType-F CType) → member_in structs (name.Member k) f ≡ Some t → IsPartIn structs u f (offset_of structs (tag_in f) k) (width_of t)
    by (CType-F.Struct tag) e = subst (λ f. IsPartIn structs (ctype.Struct tag) f (offset_of structs tag k) (width_of t)) (struct_form tag) (member_part structs tag k t e)
    by CType-F.Int e = absurd (cc)
    by CType-F.Unsigned e = absurd (cc)
    by CType-F.Char e = absurd (cc)
    by CType-F.Void e = absurd (cc)
    by (CType-F.Pointer q v) e = absurd (cc)

-- so many bytes behind the begin of the structure
pub member_behind : (structs : Structs) (u : CType) (n : Name) (t : CType) (k : ℕ) → n ≡ name.Member k → dot_type structs u n ≡ Some t
    → IsPart structs u (0 + offset_of structs (tag_of u) (member_number n)) (width_of t)
member_behind structs u n t k named there =
    subst (λ o. IsPart structs u o (width_of t)) (same (offset_of structs (tag_of u) (member_number n))) (member_there structs u n t k named there)
  where
    same : (o : ℕ) → o ≡ 0 + o
    same o = omega arith
