use Rattle.std.proofs.Common.{rules, ◌≡◌, List, [], ◌∷◌, ◌++◌, sym, ap, ◌∙◌}
use Rattle.ckc_base.specs.declared.places.Pos.{Pos}
use Rattle.ckc_syntax.specs.declared.tree.TypeTree.{the_lemmas as type_lemmas}
use Rattle.ckc_syntax.specs.declared.tree.TypeTree.TheVariants as tree
use Rattle.ckc_types.specs.declared.types.Kind.{Kind}
use Rattle.ckc_types.specs.declared.types.Kind.TheVariants as kind
use Rattle.ckc_types.specs.declared.types.CType.{CType}
use Rattle.ckc_types.specs.declared.types.CType.TheVariants as ctype
use Rattle.ckc_types.specs.Pointers.{wrapped}
use Rattle.ckc_types.proofs.Wrapping.{wrapped_push}
use Rattle.ckc_typed.specs.Trees.{TypeTree}
use Rattle.ckc_typed.specs.Types.{type_written}
use Rattle.ckc_typed.proofs.types.type_written.Goals as goal

written_Raw : (t : TypeTree) (pos : Pos) → type_written (tree.Raw t pos) ≡ ctype.Pointer kind.Raw (type_written t)
written_Raw t pos = search (rules, type_lemmas)

written_One : (t : TypeTree) → type_written (tree.One t) ≡ ctype.Pointer kind.One (type_written t)
written_One t = search (rules, type_lemmas)

written_Arr : (t : TypeTree) → type_written (tree.Arr t) ≡ ctype.Pointer kind.Arr (type_written t)
written_Arr t = search (rules, type_lemmas)

written_Nt : (t : TypeTree) → type_written (tree.Nt t) ≡ ctype.Pointer kind.Nt (type_written t)
written_Nt t = search (rules, type_lemmas)

-- one pointer more is taken off
inside : (kinds more : List Kind) (k : Kind) (rest inner next : TypeTree) (whole : CType) → more ≡ kinds ++ k ∷ [] → next ≡ inner →
    type_written rest ≡ ctype.Pointer k (type_written inner) → wrapped kinds (type_written rest) ≡ whole → wrapped more (type_written next) ≡ whole
inside kinds more k rest inner next whole e n f h =
    ap (λ ks. wrapped ks (type_written next)) e ∙ wrapped_push kinds k (type_written next)
    ∙ ap (λ u. wrapped kinds (ctype.Pointer k (type_written u))) n ∙ ap (wrapped kinds) (sym f) ∙ h

pub pointers-preserved-in-Raw : goal.pointers-preserved-in-Raw
pointers-preserved-in-Raw c = inside _ _ kind.Raw _ _ _ _ c.in_ok-push-in-Raw.ensures.ok c.get-rest.ensures (ap type_written c.in-Raw.is ∙ written_Raw _ _) c.pointers.invariant

pub pointers-preserved-in-One : goal.pointers-preserved-in-One
pointers-preserved-in-One c = inside _ _ kind.One _ _ _ _ c.in_ok-push-in-One.ensures.ok c.get-rest-in-One.ensures (ap type_written c.in-One.is ∙ written_One _) c.pointers.invariant

pub pointers-preserved-in-Arr : goal.pointers-preserved-in-Arr
pointers-preserved-in-Arr c = inside _ _ kind.Arr _ _ _ _ c.in_ok-push-in-Arr.ensures.ok c.get-rest-in-Arr.ensures (ap type_written c.in-Arr.is ∙ written_Arr _) c.pointers.invariant

pub pointers-preserved : goal.pointers-preserved
pointers-preserved c = inside _ _ kind.Nt _ _ _ _ c.in_ok-push-in-Nt.ensures.ok c.get-rest-in-Nt.ensures (ap type_written c.in-Nt.is ∙ written_Nt _) c.pointers.invariant
