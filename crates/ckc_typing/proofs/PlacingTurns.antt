-- Blocks that are placed one after another.
use Rattle.std.proofs.Common.{◌≡◌, ◌<◌, ◌≤◌, ℕ, suc, ◌+◌, ◌-◌, ◌*◌, ◌%◌, Bool, true, false, nat_lt, List, [], ◌∷◌, ◌++◌, length, drop, get_or, drop-cons, add-one, refl, sym, ap, ◌∙◌, append-nil, arith}
use Rattle.std.specs.Prelude.{Ok}
use Rattle.std.proofs.lemmas.List.{drop_all}
use Rattle.std.proofs.lemmas.Bool.Decides.{nat_tests}
use Rattle.ckc_types.specs.declared.types.Structs.{Structs}
use Rattle.ckc_typed.specs.Codes.{late_statics}
use Rattle.ckc_typed.specs.declared.typed.StaticObject.{StaticObject}
use Rattle.ckc_base.specs.Outcomes.{Outcome, unless, refused}
use Rattle.ckc_typed.specs.Constants.{size_of}
use Rattle.ckc_base.specs.MemoryMap.{statics_end}
use Rattle.ckc_typed.specs.Statics.{placed, begin_behind, end_of_block, end_of_blocks}
use Rattle.ckc_base.specs.Places.{start}
use Rattle.ckc_typing.specs.code.Placing.{placed_behind}
use Rattle.ckc_base.proofs.Turns.{ahead, ahead_twice}

is_less : (a b : ℕ) → a < b → nat_lt a b ≡ true
is_less a b h = grind (arith, nat_tests)

is_no_less : (a b : ℕ) → b ≤ a → nat_lt a b ≡ false
is_no_less a b h = grind (arith, nat_tests)

steps_on : (e n s : ℕ) → e ≤ (e + 8 + n) + s
steps_on e n s = omega arith

-- blocks end no earlier than what lies before them
pub ends_later : (structs : Structs) (os : List StaticObject) (end : ℕ) → end ≤ end_of_blocks structs end os
ends_later structs [] end = omega arith
ends_later structs (o ∷ os) end =
    let first : end ≤ end_of_block structs end o = steps_on end ((8 - (end + 8) % 8) % 8) (size_of structs o.element * o.count) in
    let rest : end_of_block structs end o ≤ end_of_blocks structs (end_of_block structs end o) os = ends_later structs os (end_of_block structs end o) in
    omega arith

in_front : (b : Bool) (x : StaticObject) (ps : List StaticObject) → unless b late_statics start (Ok (x ∷ ps)) ≡ ahead (x ∷ []) (unless b late_statics start (Ok ps))
in_front true x ps = refl
in_front false x ps = refl

module _ (structs : Structs) (end : ℕ) (xs : List StaticObject) (i : ℕ) (whole : Outcome (List StaticObject)) (done : List StaticObject) (kept : whole ≡ ahead done (placed_behind structs end (drop i xs))) where
  split : (o : StaticObject) → i < length xs → o ≡ get_or xs i o → drop i xs ≡ o ∷ drop (i + 1) xs
  split o h e = rw (add-one, drop-cons xs i o) (ap (λ y. y ∷ drop (suc i) xs) (sym e))

  abbrev at_begin : StaticObject → StaticObject
  at_begin o = record o { at = begin_behind end }

  pub placed_done : (o p : StaticObject) (more : List StaticObject) (next : ℕ) → i < length xs → o ≡ get_or xs i o → p ≡ at_begin o → more ≡ done ++ p ∷ [] → next ≡ end_of_block structs end o → whole ≡ ahead more (placed_behind structs next (drop (i + 1) xs))
  placed_done o p more next h e q m n =
      kept ∙ ap (λ l. ahead done (placed_behind structs end l)) (split o h e)
      ∙ ap (ahead done) (in_front (nat_lt statics_end (end_of_blocks structs (end_of_block structs end o) (drop (i + 1) xs))) (at_begin o) (placed structs (end_of_block structs end o) (drop (i + 1) xs)))
      ∙ ahead_twice done (at_begin o ∷ []) (placed_behind structs (end_of_block structs end o) (drop (i + 1) xs))
      ∙ ap (λ x. ahead (done ++ x ∷ []) (placed_behind structs (end_of_block structs end o) (drop (i + 1) xs))) (sym q)
      ∙ ap (λ l. ahead l (placed_behind structs (end_of_block structs end o) (drop (i + 1) xs))) (sym m)
      ∙ ap (λ k. ahead more (placed_behind structs k (drop (i + 1) xs))) (sym n)

  pub placed_late : (o : StaticObject) (next : ℕ) → i < length xs → o ≡ get_or xs i o → next ≡ end_of_block structs end o → statics_end < next → whole ≡ refused late_statics start
  placed_late o next h e n late =
      let last : end_of_block structs end o ≤ end_of_blocks structs (end_of_block structs end o) (drop (i + 1) xs) = ends_later structs (drop (i + 1) xs) (end_of_block structs end o) in
      let past : statics_end < end_of_blocks structs (end_of_block structs end o) (drop (i + 1) xs) = omega arith in
      kept ∙ ap (λ l. ahead done (placed_behind structs end l)) (split o h e)
      ∙ ap (λ b. ahead done (unless b late_statics start (Ok (placed structs end (o ∷ drop (i + 1) xs))))) (is_less statics_end (end_of_blocks structs (end_of_block structs end o) (drop (i + 1) xs)) past)

  pub placed_end : length xs ≤ i → end ≤ statics_end → whole ≡ Ok done
  placed_end h within =
      kept ∙ ap (λ l. ahead done (placed_behind structs end l)) (drop_all i xs h)
      ∙ ap (λ b. ahead done (unless b late_statics start (Ok []))) (is_no_less statics_end end within)
      ∙ ap (λ l. Ok l) (append-nil done)
