-- A shift of facts, one after the other.
use Rattle.std.proofs.Common.{◌≡◌, ℕ, ℤ, ◌+◌, ◌^◌, ◌<◌, List, ◌++◌, map, length, get_or, set, take, drop, ap, sym, subst, ◌∙◌, arith}
use Rattle.std.specs.List.{All}
use Rattle.std.proofs.lemmas.List.{drop_more, get_or_at, get_or_default, length-map, length-take-le}
use Rattle.std.proofs.lemmas.List.Edits.{map_over_more}
use Rattle.ckc_linear.specs.declared.facts.Fact.{Fact}
use Rattle.ckc_linear.specs.Facts.{IsWithin, shifted}

module _ (x : ℕ) (c c' : ℤ) (same : c' ≡ c) (facts now : List Fact) (i : ℕ) (d : Fact) (within : i < length facts)
    (so_far : now ≡ map (shifted x c) (take i facts) ++ drop i facts) where
  -- the fact at i is as it was
  kept : get_or now i d ≡ get_or facts i d
  kept =
      let long = length-map (take i facts) (shifted x c) ∙ length-take-le i facts (omega arith) in
      let rest = drop_more facts i d within in
      ap (λ fs. get_or fs i d) (so_far ∙ ap (λ fs. map (shifted x c) (take i facts) ++ fs) rest)
      ∙ get_or_at (map (shifted x c) (take i facts)) (get_or facts i d) (drop (i + 1) facts) d i long

  pub shifted_next : All (λ f. IsWithin (2 ^ 50) (shifted x c f).c) facts → IsWithin (2 ^ 50) (shifted x c' (get_or now i d)).c
  shifted_next all =
      let here = subst (λ f. IsWithin (2 ^ 50) (shifted x c f).c) (sym kept) (all i d within) in
      subst (λ z. IsWithin (2 ^ 50) (shifted x z (get_or now i d)).c) (sym same) here

  pub shifted_more : (f : Fact) → i < length now → f ≡ shifted x c' (get_or now i d) →
      set now i f ≡ map (shifted x c) (take (i + 1) facts) ++ drop (i + 1) facts
  shifted_more f long e =
      let old = get_or now i d in
      ap (set now i) (e ∙ ap (λ z. shifted x z old) same)
      ∙ map_over_more (shifted x c) facts now i old within so_far (get_or_default now i d old long)
