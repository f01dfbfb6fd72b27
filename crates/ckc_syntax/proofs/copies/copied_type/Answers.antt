use Rattle.std.proofs.Common.{◌≡◌, ◌∙◌, List, [], ◌∷◌, ◌++◌, sym, ap}
use Rattle.ckc_syntax.specs.declared.pointers.Pointer.{Pointer}
use Rattle.ckc_syntax.specs.Pointers.{pointer_to, wrapped}
use Rattle.ckc_syntax.specs.declared.tree.TypeTree.{TypeTree}
use Rattle.ckc_syntax.proofs.Wrapping.{wrapped_push}
use Rattle.ckc_syntax.proofs.copies.copied_type.Goals as goal
use Rattle.ckc_syntax.proofs.copies.copied_type.Goals.{in-Raw, in-One, in-Arr, in-Nt}

-- a pointer is taken off
taken_off : {N : Type 0} (pointers more : List Pointer) (p : Pointer) (rest inner next whole : TypeTree N) → more ≡ pointers ++ p ∷ [] → rest ≡ pointer_to p inner → next ≡ inner →
    wrapped pointers rest ≡ whole → wrapped more next ≡ whole
taken_off pointers more p rest inner next whole e is n kept =
    ap (λ ps. wrapped ps next) e ∙ wrapped_push pointers p next ∙ ap (λ t. wrapped pointers (pointer_to p t)) n ∙ ap (wrapped pointers) (sym is) ∙ kept

pub pointers-preserved : goal.pointers-preserved
pointers-preserved g c =
    let front : c.pointers.rest.now ≡ pointer_to c.match-rest.pointer.0 c.match-rest.pointer.1.now =
    elim c.match-rest.branch [ in-Raw w ↦ rw w.pointer-is w.in-Raw.is | in-One w ↦ rw w.pointer-is w.in-One.is | in-Arr w ↦ rw w.pointer-is w.in-Arr.is | in-Nt w ↦ rw w.pointer-is w.in-Nt.is ] in
    taken_off _ _ c.match-rest.pointer.0 _ _ _ _ c.in_ok-push.ensures.ok front c.get-rest.ensures c.pointers.invariant
