-- A pointer in a pointer: the outer one adds nothing, unless it is an `_Nt_array_ptr`, which is none to a pointer.
use Rattle.std.proofs.Common.{rules, ◌≡◌, ◌∙◌, refl, sym, ap, Option, None, Some, Bool, true, false}
use Rattle.ckc_types.specs.declared.types.Kind.{Kind}
use Rattle.ckc_types.specs.declared.types.Kind.TheVariants as kind
use Rattle.ckc_types.specs.declared.types.CType.{CType, the_lemmas as type_lemmas}
use Rattle.ckc_types.specs.declared.types.CType.TheVariants as ctype
use Rattle.ckc_typed.specs.Conversions.{is_terminated_kind}
use Rattle.ckc_typed.specs.Types.{pointer_parts, integer_object}
use Rattle.ckc_typed.specs.code.Types.{within}

terminated : (k : Kind) (integer : Option Bool) → pointer_parts kind.Nt (pointer_parts k integer) ≡ None
terminated kind.Raw (Some b) = refl
terminated kind.Raw None = refl
terminated kind.One (Some b) = refl
terminated kind.One None = refl
terminated kind.Arr (Some b) = refl
terminated kind.Arr None = refl
terminated kind.Nt (Some true) = refl
terminated kind.Nt (Some false) = refl
terminated kind.Nt None = refl

plain : (outer : Kind) (k : Kind) (integer : Option Bool) → pointer_parts outer (Some false) ≡ Some false → pointer_parts outer None ≡ None →
    pointer_parts outer (pointer_parts k integer) ≡ pointer_parts k integer
plain outer kind.Raw (Some b) e f = e
plain outer kind.Raw None e f = f
plain outer kind.One (Some b) e f = e
plain outer kind.One None e f = f
plain outer kind.Arr (Some b) e f = e
plain outer kind.Arr None e f = f
plain outer kind.Nt (Some true) e f = e
plain outer kind.Nt (Some false) e f = f
plain outer kind.Nt None e f = f

in_another : (outer : Option Kind) (k : Kind) (integer : Option Bool) → is_terminated_kind outer ≡ false → within outer (pointer_parts k integer) ≡ within (Some k) integer
in_another None k integer h = refl
in_another (Some kind.Raw) k integer h = plain kind.Raw k integer refl refl
in_another (Some kind.One) k integer h = plain kind.One k integer refl refl
in_another (Some kind.Arr) k integer h = plain kind.Arr k integer refl refl
in_another (Some kind.Nt) k integer h = cc

in_terminated : (outer : Option Kind) (k : Kind) (integer : Option Bool) → is_terminated_kind outer ≡ true → within outer (pointer_parts k integer) ≡ None
in_terminated None k integer h = cc
in_terminated (Some kind.Raw) k integer h = cc
in_terminated (Some kind.One) k integer h = cc
in_terminated (Some kind.Arr) k integer h = cc
in_terminated (Some kind.Nt) k integer h = terminated k integer

pointer_object : (k : Kind) (t : CType) → integer_object (ctype.Pointer k t) ≡ pointer_parts k (integer_object t)
pointer_object k t = search (rules, type_lemmas)

module _ (outer : Option Kind) (k : Kind) (rest inner : CType) (whole : Option Bool) (is : rest ≡ ctype.Pointer k inner) (kept : within outer (integer_object rest) ≡ whole) where
  seen : within outer (pointer_parts k (integer_object inner)) ≡ whole
  seen = ap (within outer) (sym (ap integer_object is ∙ pointer_object k inner)) ∙ kept

  -- a pointer is taken off
  pub taken_off : (next : CType) → next ≡ inner → is_terminated_kind outer ≡ false → within (Some k) (integer_object next) ≡ whole
  taken_off next e h = ap (λ t. within (Some k) (integer_object t)) e ∙ sym (in_another outer k (integer_object inner) h) ∙ seen

  -- a pointer in an `_Nt_array_ptr`
  pub terminated_around : is_terminated_kind outer ≡ true → None ≡ whole
  terminated_around h = sym (in_terminated outer k (integer_object inner) h) ∙ seen
