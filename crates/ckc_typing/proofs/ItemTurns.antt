-- Items that are judged in turn, each in the mode that the ones before it leave.
use Rattle.std.proofs.Common.{◌≡◌, ◌<◌, ◌≤◌, ℕ, suc, ◌+◌, List, [], ◌∷◌, ◌++◌, length, drop, get_or, drop-cons, add-one, sym, ap, ◌∙◌, append-nil}
use Rattle.std.specs.Prelude.{Ok, Err}
use Rattle.std.proofs.lemmas.List.{drop_all}
use Rattle.ckc_base.specs.declared.arithmetic.Mode.{Mode}
use Rattle.ckc_base.specs.declared.places.Refusal.{Refusal}
use Rattle.ckc_typed.specs.declared.environment.Globals.{Globals}
use Rattle.ckc_base.specs.Outcomes.{Outcome, bind}
use Rattle.ckc_typed.specs.Trees.{Item, NotedItem}
use Rattle.ckc_typed.specs.Texts.{item_typed, items_typed}
use Rattle.ckc_typed.specs.Walk.{pragma_after}
use Rattle.ckc_base.proofs.Turns.{ahead, ahead_twice}

module _ (globals : Globals) (pragma : Mode) (xs : List Item) (i : ℕ) where
  abbrev rest_after : Item → NotedItem → Outcome (List NotedItem)
  rest_after x n = bind (items_typed globals (pragma_after pragma x) (drop (i + 1) xs)) (λ ns. Ok (n ∷ ns))

  turn : (x : Item) → i < length xs → x ≡ get_or xs i x → items_typed globals pragma (drop i xs) ≡ bind (item_typed globals pragma x) (λ n. bind (items_typed globals (pragma_after pragma x) (drop (i + 1) xs)) (λ ns. Ok (n ∷ ns)))
  turn x h e = rw (add-one, drop-cons xs i x) (ap (λ y. bind (item_typed globals pragma y) (λ n. bind (items_typed globals (pragma_after pragma y) (drop (suc i) xs)) (λ ns. Ok (n ∷ ns)))) (sym e))

  module _ (whole : Outcome (List NotedItem)) (done : List NotedItem) (kept : whole ≡ ahead done (items_typed globals pragma (drop i xs))) where
    pub item_fault : (x : Item) → i < length xs → x ≡ get_or xs i x → (r : Refusal) → item_typed globals pragma x ≡ Err r → whole ≡ Err r
    item_fault x h e r q = kept ∙ ap (ahead done) (turn x h e ∙ ap (λ o. bind o (rest_after x)) q)

    pub item_done : (x : Item) (n : NotedItem) (more : List NotedItem) (next : Mode) → i < length xs → x ≡ get_or xs i x → item_typed globals pragma x ≡ Ok n → more ≡ done ++ n ∷ [] → next ≡ pragma_after pragma x → whole ≡ ahead more (items_typed globals next (drop (i + 1) xs))
    item_done x n more next h e q m after =
        kept ∙ ap (ahead done) (turn x h e ∙ ap (λ o. bind o (rest_after x)) q)
        ∙ ahead_twice done (n ∷ []) (items_typed globals (pragma_after pragma x) (drop (i + 1) xs))
        ∙ ap (λ d. ahead d (items_typed globals (pragma_after pragma x) (drop (i + 1) xs))) (sym m)
        ∙ ap (λ p. ahead more (items_typed globals p (drop (i + 1) xs))) (sym after)

    pub items_end : length xs ≤ i → whole ≡ Ok done
    items_end h = kept ∙ ap (λ l. ahead done (items_typed globals pragma l)) (drop_all i xs h) ∙ ap (λ l. Ok l) (append-nil done)
