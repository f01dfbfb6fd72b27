-- The innermost pointer around a written type.
use Rattle.std.proofs.Common.{◌≡◌, List, [], ◌∷◌, ◌++◌, refl, ap}
use Rattle.ckc_syntax.specs.declared.pointers.Pointer.{Pointer}
use Rattle.ckc_syntax.specs.declared.tree.TypeTree.{TypeTree}
use Rattle.ckc_syntax.specs.Pointers.{pointer_to, wrapped}

pub wrapped_push : {N : Type 0} (pointers : List Pointer) (pointer : Pointer) (t : TypeTree N) →
    wrapped (pointers ++ pointer ∷ []) t ≡ wrapped pointers (pointer_to pointer t)
wrapped_push [] pointer t = refl
wrapped_push (outer ∷ pointers) pointer t = ap (pointer_to outer) (wrapped_push pointers pointer t)
