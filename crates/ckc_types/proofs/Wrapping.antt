-- The innermost pointer around a type.
use Rattle.std.proofs.Common.{◌≡◌, List, [], ◌∷◌, ◌++◌, refl, ap}
use Rattle.ckc_types.specs.declared.types.Kind.{Kind}
use Rattle.ckc_types.specs.declared.types.CType.{CType}
use Rattle.ckc_types.specs.declared.types.CType.TheVariants as ctype
use Rattle.ckc_types.specs.Pointers.{wrapped}

pub wrapped_push : (kinds : List Kind) (kind : Kind) (t : CType) → wrapped (kinds ++ kind ∷ []) t ≡ wrapped kinds (ctype.Pointer kind t)
wrapped_push [] kind t = refl
wrapped_push (outer ∷ kinds) kind t = ap (ctype.Pointer outer) (wrapped_push kinds kind t)
