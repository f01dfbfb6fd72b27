-- What the laws say, from what was proved of each kind of tree.
use Rattle.std.proofs.Common.{◌≡◌, List, [], ◌∷◌, map, refl, sym, ap, subst, ◌∙◌}
use Rattle.std.specs.Prelude.{Ok}
use Rattle.ckc_base.specs.Outcomes.{Outcome}
use Rattle.ckc_syntax.specs.declared.tree.NamedText.{NamedText}
use Rattle.ckc_syntax_limits.specs.Depth.{depth_of_item}
use Rattle.ckc_syntax_limits.specs.Marks.{marks_of_item}
use Rattle.ckc_syntax_limits.specs.Small.{Small}
use Rattle.ckc_typed.specs.declared.typed.Typed.{Typed}
use Rattle.ckc_typed.specs.Trees.{Tree as BareTree, Item, NotedItem}
use Rattle.ckc_typed.specs.Texts.{named_typed}
use Rattle.ckc_typed_welltyped.specs.Noteless.{bare_item}
use Rattle.ckc_typed_welltyped.specs.Given.{GivesExactly}
use Rattle.ckc_typed_welltyped.specs.Texts.{TypedAs}
use Rattle.ckc_base.proofs.Outcomes.{ok_same}
use Rattle.ckc_typed_welltyped.proofs.Texts.{gives, back}
use Rattle.ckc_typed_welltyped.proofs.MarksKept as marks
use Rattle.ckc_typed_welltyped.proofs.DepthKept as depth
use Rattle.ckc_typed_welltyped.proofs.SmallKept.{small_kept}

-- both directions together
pub exactly : {X Y : Type 0} (f : X → Outcome Y) (bare : Y → X) (P : Y → Type 0) → ((x : X) (y : Y) → f x ≡ Ok y → (bare y ≡ x) × P y) → ((y : Y) → P y → f (bare y) ≡ Ok y) → GivesExactly f bare P
exactly f bare P gives back x y = (gives x y, λ p. subst (λ z. f z ≡ Ok y) p.0 (back y p.1))

pub one_typed : (t : NamedText) (p q : Typed) → TypedAs t p → TypedAs t q → p ≡ q
one_typed t p q a b = ok_same p q (sym (back t p a) ∙ back t q b)

each_same : {Y : Type 0} (f : NotedItem → Y) (g : Item → Y) → ((i : NotedItem) → g (bare_item i) ≡ f i) → (is : List NotedItem) → map f is ≡ map g (map bare_item is)
each_same f g same [] = refl
each_same f g same (i ∷ is) = ap (λ x. x ∷ map f is) (sym (same i)) ∙ ap (λ xs. g (bare_item i) ∷ xs) (each_same f g same is)

pub marks_stay : (t : NamedText) (p : Typed) → named_typed t ≡ Ok p → map marks_of_item p.tree.items ≡ map marks_of_item t.tree.items
marks_stay t p e = each_same marks_of_item marks_of_item marks.of_item p.tree.items ∙ ap (λ (x : BareTree). map marks_of_item x.items) (gives t p e).tree

pub depths_stay : (t : NamedText) (p : Typed) → named_typed t ≡ Ok p → map depth_of_item p.tree.items ≡ map depth_of_item t.tree.items
depths_stay t p e = each_same depth_of_item depth_of_item depth.of_item p.tree.items ∙ ap (λ (x : BareTree). map depth_of_item x.items) (gives t p e).tree

pub small_stays : (t : NamedText) (p : Typed) → named_typed t ≡ Ok p → Small t.tree → Small p.tree
small_stays t p e s = small_kept p.tree (subst Small (sym (gives t p e).tree) s)
