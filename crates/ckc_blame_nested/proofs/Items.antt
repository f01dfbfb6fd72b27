-- Items whose statements stand where the grammar lets them.
use Rattle.std.proofs.Common.{◌≡◌, Bool, true, false, ◌&&◌, List, ◌++◌, refl, ap, ◌∙◌}
use Rattle.std.proofs.lemmas.List.Elements.{All-contains}
use Rattle.std.proofs.lemmas.List.Folds.{list_all-append}
use Rattle.std.proofs.lemmas.List.Sums.{AllPass-from_list_all}
use Rattle.std.specs.List.{list_all}
use Rattle.ckc_syntax.specs.declared.tree.Item.{Item}
use Rattle.ckc_syntax.specs.declared.tree.Item.TheVariants as item
use Rattle.ckc_blame_nested.specs.Nested.{nesting_of, AreNested}

abbrev pub is_nested : {N A : Type 0} → Item N A → Bool
is_nested (item.Function head body) = (nesting_of body).fine
is_nested _ = true

pub all_joined : {X : Type 0} (p : X → Bool) (xs ys : List X) → list_all p xs ≡ true → list_all p ys ≡ true → list_all p (xs ++ ys) ≡ true
all_joined p xs ys e f = list_all-append p xs ys ∙ ap (λ b. b && list_all p ys) e ∙ f

pub first_of : (a b : Bool) → (a && b) ≡ true → a ≡ true
first_of true b e = refl
first_of false b e = e

pub nested_all : {N A : Type 0} (items : List (Item N A)) → list_all is_nested items ≡ true → AreNested items
nested_all {N} {A} items h head body there =
    All-contains (λ (i : Item N A). is_nested i ≡ true) items (item.Function head body) (AllPass-from_list_all is_nested items h) there
