-- The types of interfaces, as callers see them and as a body does.
use Rattle.std.proofs.Common.{rules, ◌≡◌, ◌∙◌, inl, inr, refl, sym, ap, Bool, true, false}
use Rattle.std.specs.Prelude.{◌⊎◌, if◌then◌else◌, Option, None, Some, is_some}
use Rattle.ckc_base.specs.declared.arithmetic.Mode.{Mode}
use Rattle.ckc_base.specs.declared.arithmetic.Mode.TheVariants.{Checked, Unchecked}
use Rattle.ckc_types.specs.declared.types.CType.{CType, CType-F, out-CType, the_lemmas}
use Rattle.ckc_types.specs.declared.types.CType.TheVariants as ctype
use Rattle.ckc_types.specs.declared.types.Kind.{Kind}
use Rattle.ckc_types.specs.declared.types.Kind.TheVariants as kind
use Rattle.ckc_syntax.specs.declared.tree.Name.{Name}
use Rattle.ckc_syntax.specs.declared.tree.TypeTree.{TypeTree-F, map-TypeTree, out-TypeTree, fold-roll-TypeTree, fold_out-TypeTree}
use Rattle.ckc_syntax.specs.declared.tree.TypeTree.TheVariants as types
use Rattle.ckc_syntax.specs.declared.tree.Decl.{Decl}
use Rattle.ckc_syntax.specs.declared.tree.Limits.{Limits}
use Rattle.ckc_typed.specs.Interfaces.{may_be_shared, shared_in, interface_to, is_interface, seen_as, seen}
use Rattle.ckc_typed.specs.Trees.{TypeTree}
use Rattle.ckc_typed.specs.Types.{written_parts, type_written, is_pointer, is_pointer_form, element_in, element_of}

pub pointer_out : (k : Kind) (t : CType) → out-CType (ctype.Pointer k t) ≡ CType-F.Pointer k t
pointer_out k t = search (rules, the_lemmas)

abbrev written_in : TypeTree-F Name TypeTree → TypeTree-F Name CType
written_in = map-TypeTree Name TypeTree CType type_written

arr_written : (t : TypeTree) → type_written (types.Arr t) ≡ ctype.Pointer kind.Arr (type_written t)
arr_written t = ap type_written (sym (types.rolls-Arr t)) ∙ fold-roll-TypeTree Name CType written_parts (TypeTree-F.Arr t)

raw_written : (x : TypeTree-F Name TypeTree) (t : TypeTree) → shared_in x ≡ Some t → written_parts (written_in x) ≡ ctype.Pointer kind.Raw (type_written t)
raw_written (TypeTree-F.Raw u at) t e = by (may_be_shared (out-TypeTree Name u)) e
  where
    by : (b : Bool) → (if b then Some u else None) ≡ Some t → ctype.Pointer kind.Raw (type_written u) ≡ ctype.Pointer kind.Raw (type_written t)
    by true e = let same : u ≡ t = cc in ap (λ (w : TypeTree). ctype.Pointer kind.Raw (type_written w)) same
    by false e = absurd cc
raw_written TypeTree-F.Int t e = absurd cc
raw_written TypeTree-F.Unsigned t e = absurd cc
raw_written TypeTree-F.Char t e = absurd cc
raw_written TypeTree-F.Void t e = absurd cc
raw_written (TypeTree-F.Struct n at) t e = absurd cc
raw_written (TypeTree-F.One u) t e = absurd cc
raw_written (TypeTree-F.Arr u) t e = absurd cc
raw_written (TypeTree-F.Nt u) t e = absurd cc

-- A type is another one, or both are pointers to the same type.
abbrev pub SeenAs : CType → CType → Type 0
SeenAs t u = (u ≡ t) ⊎ ((is_pointer t ≡ true) × (is_pointer u ≡ true) × (element_of u ≡ element_of t))

module _ {A : Type 0} where
  pub interface_written : (d : Decl Name A) (t : TypeTree) → interface_to d ≡ Some t → type_written d.ctype ≡ ctype.Pointer kind.Raw (type_written t)
  interface_written d t e = by (is_some d.bounds) e
    where
      by : (b : Bool) → (if b then shared_in (out-TypeTree Name d.ctype) else None) ≡ Some t → type_written d.ctype ≡ ctype.Pointer kind.Raw (type_written t)
      by true e = fold_out-TypeTree Name CType written_parts d.ctype ∙ raw_written (out-TypeTree Name d.ctype) t e
      by false e = absurd cc

  -- An interface in unchecked code, beside what callers see.
  pub record IsShared (x y : Decl Name A) : Type 0 where
    pub to : CType
    pub bounds : x.bounds ≡ None
    pub written : type_written x.ctype ≡ ctype.Pointer kind.Raw to
    pub passed : type_written y.ctype ≡ ctype.Pointer kind.Arr to

  -- A body sees what callers see, or an interface in unchecked code.
  pub seen_in : (mode : Mode) (d : Decl Name A) → (seen mode d ≡ seen Checked d) ⊎ IsShared (seen mode d) (seen Checked d)
  seen_in mode d = by mode (interface_to d) refl
    where
      by : (mode : Mode) (o : Option TypeTree) → interface_to d ≡ o → (seen_as mode d o ≡ seen_as Checked d o) ⊎ IsShared (seen_as mode d o) (seen_as Checked d o)
      by Checked o e = inl refl
      by Unchecked None e = inl refl
      by Unchecked (Some t) e = inr (record { to = type_written t; bounds = refl; written = interface_written d t e; passed = arr_written t })

  -- An interface is an unchecked pointer where it is written, and an `_Array_ptr` to its callers.
  pub seen_written : (mode : Mode) (d : Decl Name A) → (type_written (seen mode d).ctype ≡ type_written d.ctype)
      ⊎ ((u : CType) × (type_written d.ctype ≡ ctype.Pointer kind.Raw u) × (type_written (seen mode d).ctype ≡ ctype.Pointer kind.Arr u))
  seen_written mode d = by mode (interface_to d) refl
    where
      by : (mode : Mode) (o : Option TypeTree) → interface_to d ≡ o → (type_written (seen_as mode d o).ctype ≡ type_written d.ctype)
          ⊎ ((u : CType) × (type_written d.ctype ≡ ctype.Pointer kind.Raw u) × (type_written (seen_as mode d o).ctype ≡ ctype.Pointer kind.Arr u))
      by mode None e = inl refl
      by Unchecked (Some t) e = inl refl
      by Checked (Some t) e = inr (type_written t, interface_written d t e, arr_written t)

  pub seen_type : (x y : Decl Name A) → (x ≡ y) ⊎ IsShared x y → SeenAs (type_written y.ctype) (type_written x.ctype)
  seen_type x y w = elim w [
    | inl e ↦ inl (ap (λ (d : Decl Name A). type_written d.ctype) e)
    | inr s ↦ inr (
      ap is_pointer s.passed ∙ ap is_pointer_form (pointer_out kind.Arr s.to),
      ap is_pointer s.written ∙ ap is_pointer_form (pointer_out kind.Raw s.to),
      ap element_of s.written ∙ ap element_in (pointer_out kind.Raw s.to) ∙ sym (ap element_of s.passed ∙ ap element_in (pointer_out kind.Arr s.to)),
    )
  ]

  -- an interface in unchecked code
  pub interface_shared : (d : Decl Name A) → is_interface d ≡ true → IsShared (seen Unchecked d) (seen Checked d)
  interface_shared d = by (interface_to d) refl
    where
      by : (o : Option TypeTree) → interface_to d ≡ o → is_some o ≡ true → IsShared (seen_as Unchecked d o) (seen_as Checked d o)
      by None e i = absurd cc
      by (Some t) e i = record { to = type_written t; bounds = refl; written = interface_written d t e; passed = arr_written t }

  -- has bounds
  pub interface_bounded : (d : Decl Name A) → is_interface d ≡ true → (l : Limits Name A) × (d.bounds ≡ Some l)
  interface_bounded d = by d.bounds refl
    where
      by : (o : Option (Limits Name A)) → d.bounds ≡ o → is_some (if is_some o then shared_in (out-TypeTree Name d.ctype) else None) ≡ true → (l : Limits Name A) × (d.bounds ≡ Some l)
      by None e i = absurd cc
      by (Some l) e i = (l, e)
