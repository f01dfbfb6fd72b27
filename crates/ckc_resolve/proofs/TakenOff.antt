-- The pointers that are taken off a type while its tags are named.
use Rattle.std.proofs.Common.{rules, ◌≡◌, ◌∙◌, List, [], ◌∷◌, ◌++◌, refl, sym, ap}
use Rattle.std.specs.Prelude.{Ok, Err}
use Rattle.ckc_base.specs.Outcomes.{Outcome, bind}
use Rattle.ckc_syntax.specs.declared.pointers.Pointer.{Pointer}
use Rattle.ckc_syntax.specs.declared.pointers.Pointer.TheVariants as pointer
use Rattle.ckc_syntax.specs.declared.tree.TypeTree.{the_lemmas as type_lemmas}
use Rattle.ckc_syntax.specs.Pointers.{pointer_to, wrapped}
use Rattle.ckc_syntax.proofs.Wrapping.{wrapped_push}
use Rattle.ckc_resolve.specs.declared.names.Names.{Names}
use Rattle.ckc_resolve.specs.Trees.{TypeTree, NamedType}
use Rattle.ckc_resolve.specs.Types.{type_named}

-- the outcome of a type in pointers by that of the type
abbrev pub ahead : List Pointer → Outcome NamedType → Outcome NamedType
ahead pointers o = bind o (λ t. Ok (wrapped pointers t))

one_more : (pointers : List Pointer) (p : Pointer) (o : Outcome NamedType) → ahead pointers (bind o (λ t. Ok (pointer_to p t))) ≡ ahead (pointers ++ p ∷ []) o
one_more pointers p (Ok t) = ap (λ u. Ok u) (sym (wrapped_push pointers p t))
one_more pointers p (Err r) = refl

pointer_named : (names : Names) (p : Pointer) (t : TypeTree) → type_named names (pointer_to p t) ≡ bind (type_named names t) (λ u. Ok (pointer_to p u))
pointer_named names (pointer.Raw pos) t = search (rules, type_lemmas)
pointer_named names pointer.One t = search (rules, type_lemmas)
pointer_named names pointer.Arr t = search (rules, type_lemmas)
pointer_named names pointer.Nt t = search (rules, type_lemmas)

-- a pointer is taken off
pub taken_off : (names : Names) (pointers more : List Pointer) (p : Pointer) (rest inner next : TypeTree) (whole : Outcome NamedType) →
    more ≡ pointers ++ p ∷ [] → rest ≡ pointer_to p inner → next ≡ inner → whole ≡ ahead pointers (type_named names rest) → whole ≡ ahead more (type_named names next)
taken_off names pointers more p rest inner next whole e is n kept =
    kept ∙ ap (ahead pointers) (ap (type_named names) is ∙ pointer_named names p inner) ∙ one_more pointers p (type_named names inner)
    ∙ ap (λ ps. ahead ps (type_named names inner)) (sym e) ∙ ap (λ t. ahead more (type_named names t)) (sym n)
