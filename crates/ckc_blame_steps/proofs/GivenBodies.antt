-- The grammar gives the bodies of a judged text if it gives the tree of its names, since it looks at no notes.
use Rattle.std.proofs.Common.{◌≡◌, ◌∙◌, sym, ap, true}
use Rattle.std.proofs.lemmas.List.Elements.{All-contains}
use Rattle.std.proofs.lemmas.List.Sums.{AllPass-from_list_all}
use Rattle.ckc_syntax.specs.Trees.{NamedTree}
use Rattle.ckc_syntax.specs.declared.tree.Item.TheVariants as item
use Rattle.ckc_typed.specs.declared.typed.Typed.{Typed}
use Rattle.ckc_typed.specs.Trees.{NotedItem}
use Rattle.ckc_typed_welltyped.specs.Productions.{given_head, given_item, given_stmt, placed_body, without_calls, given_tree}
use Rattle.ckc_typed_welltyped.proofs.FormKept.{of_tree}
use Rattle.ckc_blame_sound.specs.ckc_bounds.specs.Phase.{bounding}
use Rattle.ckc_blame_sound.specs.ckc_bounds_known.proofs.Reaching.{and_cases}
use Rattle.ckc_blame_sound.specs.Given.{AreGiven}
use Rattle.ckc_blame_sound.specs.JudgedTexts.{IsJudged}
use Rattle.ckc_blame_sound.proofs.Bares.{same_tree}
use Rattle.ckc_blame_sound.proofs.Functions.{tree_named}

-- what was judged was given too
before_given : (p : Typed) (j : IsJudged p) (q : Typed) → bounding.Makes q p → given_tree q.tree ≡ given_tree j.named.tree
before_given p j q made = sym (of_tree q.tree) ∙ ap (λ (t : NamedTree). given_tree t) (sym (same_tree q p made) ∙ tree_named p j)

pub texts_given : (p : Typed) (j : IsJudged p) → given_tree j.named.tree ≡ true → AreGiven p
texts_given p j given q h body made there =
    (and_cases (given_stmt body).fine (given_stmt body).nested (and_cases (given_head h) (placed_body without_calls body)
    (All-contains (λ (i : NotedItem). given_item i ≡ true) q.tree.items (item.Function h body) (AllPass-from_list_all given_item q.tree.items (before_given p j q made ∙ given)) there)).1).0
