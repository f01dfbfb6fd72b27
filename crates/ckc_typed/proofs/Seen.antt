-- What a body sees of a parameter: all but its type and its bounds is as it is written, and so are these where they say
-- nothing of an interface.
use Rattle.std.proofs.Common.{◌≡◌, ◌∙◌, refl, ap, false, Option, None, Some, List, [], ◌∷◌, map}
use Rattle.std.specs.Prelude.{is_some}
use Rattle.ckc_base.specs.declared.arithmetic.Mode.{Mode}
use Rattle.ckc_base.specs.declared.arithmetic.Mode.TheVariants.{Checked, Unchecked}
use Rattle.ckc_syntax.specs.declared.tree.TypeTree.{TypeTree}
use Rattle.ckc_syntax.specs.declared.tree.TypeTree.TheVariants as types
use Rattle.ckc_syntax.specs.declared.tree.Decl.{Decl}
use Rattle.ckc_syntax.specs.declared.tree.Head.{Head}
use Rattle.ckc_typed.specs.Interfaces.{interface_to, is_interface, seen_as, seen, seen_params}

module _ {N A : Type 0} where
  -- what is said of a declaration whatever type and bounds it has
  pub kept_seen : {X : Type 0} (f : Decl N A → X) → ((d : Decl N A) (t : TypeTree N) → f (record d { ctype = t }) ≡ f d) → ((d : Decl N A) → f (record d { bounds = None }) ≡ f d)
      → (mode : Mode) (d : Decl N A) → f (seen mode d) ≡ f d
  kept_seen {X} f typed unbound mode d = by mode (interface_to d)
    where
      by : (mode : Mode) (t : Option (TypeTree N)) → f (seen_as mode d t) ≡ f d
      by mode None = refl
      by Checked (Some t) = typed d (types.Arr t)
      by Unchecked (Some t) = unbound d

  pub name_seen : (mode : Mode) (d : Decl N A) → (seen mode d).name ≡ d.name
  name_seen = kept_seen (λ (d : Decl N A). d.name) (λ d t. refl) (λ d. refl)

  -- checked code sees the bounds that are written
  pub bounds_seen : (d : Decl N A) → (seen Checked d).bounds ≡ d.bounds
  bounds_seen d = by (interface_to d)
    where
      by : (t : Option (TypeTree N)) → (seen_as Checked d t).bounds ≡ d.bounds
      by None = refl
      by (Some t) = refl

  -- and unchecked code the type
  pub type_seen : (d : Decl N A) → (seen Unchecked d).ctype ≡ d.ctype
  type_seen d = by (interface_to d)
    where
      by : (t : Option (TypeTree N)) → (seen_as Unchecked d t).ctype ≡ d.ctype
      by None = refl
      by (Some t) = refl

  -- what is no interface is seen as it is written
  pub plain_seen : (mode : Mode) (d : Decl N A) → is_interface d ≡ false → seen mode d ≡ d
  plain_seen mode d = by (interface_to d)
    where
      by : (t : Option (TypeTree N)) → is_some t ≡ false → seen_as mode d t ≡ d
      by None e = refl
      by (Some t) e = cc

  -- what is said of each parameter whatever type and bounds it has
  pub each_seen : {X : Type 0} (f : Decl N A → X) → ((mode : Mode) (d : Decl N A) → f (seen mode d) ≡ f d) → (mode : Mode) (ds : List (Decl N A)) → map f (map (seen mode) ds) ≡ map f ds
  each_seen f kept mode [] = refl
  each_seen f kept mode (d ∷ ds) = ap (λ x. x ∷ map f (map (seen mode) ds)) (kept mode d) ∙ ap (λ xs. f d ∷ xs) (each_seen f kept mode ds)

  pub names_seen : (mode : Mode) (h : Head N A) → map (λ (d : Decl N A). d.name) (seen_params mode h) ≡ map (λ (d : Decl N A). d.name) h.params
  names_seen mode h = each_seen (λ (d : Decl N A). d.name) name_seen mode h.params
