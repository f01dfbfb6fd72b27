-- Types that are the same are equal.
use Rattle.std.proofs.Common.{rules, ◌≡◌, ℕ, ◌∙◌, ap, sym, refl, Bool, true}
use Rattle.std.proofs.lemmas.Bool.{and_parts, eqb-true}
use Rattle.ckc_types.specs.declared.types.Kind.{Kind}
use Rattle.ckc_types.specs.declared.types.Kind.TheVariants as kind
use Rattle.ckc_types.specs.declared.types.CType.{CType, CType-F, map-CType, ind-CType, out-CType, roll-CType, fold-roll-CType, the_lemmas}
use Rattle.ckc_types.specs.Same.{same_kind, same_form, same_parts, same_type}

roll_out : (t : CType) → roll-CType (out-CType t) ≡ t
roll_out t = search (rules, the_lemmas)

same_kinds : (j k : Kind) → same_kind j k ≡ true → j ≡ k
same_kinds kind.Raw kind.Raw h = refl
same_kinds kind.One kind.One h = refl
same_kinds kind.Arr kind.Arr h = refl
same_kinds kind.Nt kind.Nt h = refl
same_kinds j k h = absurd cc

abbrev AreEqual : CType → Type 0
AreEqual t = (u : CType) → same_type t u ≡ true → t ≡ u

-- a type with its claim
abbrev Kept : Type 0
Kept = (t : CType) × AreEqual t

abbrev inner : CType-F Kept → CType-F CType
inner = map-CType Kept CType (λ e. e.0)

abbrev test : CType-F CType → CType-F (CType → Bool)
test = map-CType CType (CType → Bool) same_type

abbrev Form : Type 0
Form = CType-F CType

pointers : (j k : Kind) (t u : CType) → j ≡ k → t ≡ u → ◌≡◌ {A = Form} (CType-F.Pointer j t) (CType-F.Pointer k u)
pointers j k t u e f = cc

step : (y : CType-F Kept) (v : CType-F CType) → same_form (test (inner y)) v ≡ true → inner y ≡ v
step CType-F.Int CType-F.Int h = refl
step CType-F.Unsigned CType-F.Unsigned h = refl
step CType-F.Char CType-F.Char h = refl
step CType-F.Void CType-F.Void h = refl
step (CType-F.Struct j) (CType-F.Struct k) h = ap (λ (n : ℕ). CType-F.Struct n) (eqb-true j k h)
step (CType-F.Pointer j t) (CType-F.Pointer k u) h =
    let p = and_parts (same_kind j k) (same_type t.0 u) h in
    pointers j k t.0 u (same_kinds j k p.0) (t.1 u p.1)
step y v h = absurd cc

pub same_equal : (t : CType) → AreEqual t
same_equal = ind-CType AreEqual (λ x y is u h.
    let tested : same_form (test (inner y)) (out-CType u) ≡ true =
    ap (λ z. same_form (test z) (out-CType u)) is ∙ sym (ap (λ f. f u) (fold-roll-CType (CType → Bool) same_parts x)) ∙ h in
    ap roll-CType (sym is ∙ step y (out-CType u) tested) ∙ roll_out u)
