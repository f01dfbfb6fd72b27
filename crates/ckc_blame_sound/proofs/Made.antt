-- The checked pointers that memory holds are true where a new block is made: in it they are null.
use Rattle.std.proofs.Common.{◌≡◌, ◌⊎◌, ⊎_elim, inl, inr, ℕ, zero, suc, ◌+◌, ◌-◌, ◌*◌, ◌≤◌, ◌<◌, ◌==◌, List, [], ◌∷◌, ◌++◌, refl, sym, ◌∙◌, ap, subst, arith}
use Rattle.std.specs.Prelude.{Bool, true, false, ◌||◌, if◌then◌else◌, slice_get, ℤ, pos, negsuc, ◌+ℤ◌, Option, Some, None, Result, Ok, Err, IsOk}
use Rattle.std.specs.List.{list_any, Contains}
use Rattle.ckc_base.specs.declared.arithmetic.Width.{Width}
use Rattle.ckc_base.specs.declared.arithmetic.Width.TheVariants.{Word}
use Rattle.ckc_typed.specs.declared.typed.Typed.{Typed}
use Rattle.ckc_source.specs.declared.expr.Count.{Count}
use Rattle.ckc_source.specs.declared.expr.Count.TheVariants as counts
use Rattle.ckc_source.specs.declared.expr.Pointee.{Pointee}
use Rattle.ckc_source.specs.declared.outcome.Halt.{Halt}
use Rattle.ckc_source.specs.declared.outcome.Halt.TheVariants.{Stuck}
use Rattle.ckc_source.specs.declared.program.Shape.{Shape}
use Rattle.ckc_source.specs.Blocks.{Block, end_of, has, number_at, found, loaded, fresh}
use Rattle.ckc_source.specs.LaidOut.{AreApart}
use Rattle.ckc_source.specs.Runs.{is_true}
use Rattle.ckc_source.specs.Words.{exact, width_of, elements_behind}
use Rattle.ckc_source.specs.Eval.{given, given_some, place_in, counted, reads, reads_within, plain, ranged}
use Rattle.ckc_blame_sound.specs.Slots.{Slot, slots_of, IsFilled, AreFilled}
use Rattle.ckc_blame_sound.specs.Cells.{IsPart, AreSound, IsMade}
use Rattle.ckc_blame_sound.specs.Limited.{IsCountPart, AreSlotParts, store_with}
use Rattle.ckc_blame_sound.proofs.Objects.{element_at}
use Rattle.ckc_blame_sound.proofs.Stores.{inside, lies_parts}
use Rattle.ckc_blame_sound.proofs.Apart.{cell_there}
use Rattle.ckc_blame_sound.proofs.Fresh.{zero_number, loaded_before, true_before, sound_with}
use Rattle.ckc_blame_sound.proofs.Filled.{filled_by, part_cell, part_place}

-- ---- what was there

module _ (shapes : List Shape) (bs cs : List Block) (ls ms : List ℕ) where
  more_within : (to : Pointee) (n : ℕ) (low high : ℤ) → IsOk (reads_within shapes bs to n low high) → IsOk (reads_within shapes (bs ++ cs) to n low high)
  more_within to n (pos low) (pos high) h = by (is_true shapes bs to n low high) refl h
    where
      by : (b : Bool) → is_true shapes bs to n low high ≡ b → IsOk (if b then ranged n low high else Err Stuck)
          → IsOk (if is_true shapes (bs ++ cs) to n low high then ranged n low high else Err Stuck)
      by true e h = subst (λ b. IsOk (if b then ranged n low high else Err Stuck)) (sym (true_before shapes bs cs to n low high e)) h
      by false e h = absurd cc
  more_within to n (pos low) (negsuc high) h = h
  more_within to n (negsuc low) high h = h

  more_reads : (to : Pointee) (n : ℕ) (low high : ℤ) → IsOk (reads shapes bs to n low high) → IsOk (reads shapes (bs ++ cs) to n low high)
  more_reads to n low high h = by (n == 0) h
    where
      by : (b : Bool) → IsOk (if b then plain 0 else reads_within shapes bs to n low high) → IsOk (if b then plain 0 else reads_within shapes (bs ++ cs) to n low high)
      by true h = h
      by false h = more_within to n low high h

  more_count : (begin : ℕ) (k : Count) (m : ℤ) → counted (store_with shapes bs ls) begin k ≡ Ok m → counted (store_with shapes (bs ++ cs) ms) begin k ≡ Ok m
  more_count begin (counts.Fixed n) m e = e
  more_count begin (counts.Member offset form add) m e = by (loaded (width_of form) (place_in begin offset) bs) refl e
    where
      by : (o : Option ℕ) → loaded (width_of form) (place_in begin offset) bs ≡ o → given_some o (λ k. Ok (exact form k +ℤ add)) ≡ Ok m
          → given_some (loaded (width_of form) (place_in begin offset) (bs ++ cs)) (λ k. Ok (exact form k +ℤ add)) ≡ Ok m
      by None f e = absurd cc
      by (Some k) f e = ap (λ o. given_some o (λ k. Ok (exact form k +ℤ add))) (loaded_before (width_of form) (place_in begin offset) k bs cs f) ∙ e

  more_filled : (slot : Slot) (at : ℕ) → IsFilled (store_with shapes bs ls) at slot → IsFilled (store_with shapes (bs ++ cs) ms) at slot
  more_filled slot at h = by (loaded Word (place_in at slot.offset) bs) refl h
    where
      by_count : (n : ℕ) → loaded Word (place_in at slot.offset) bs ≡ Some n → (r : Result ℤ Halt) → counted (store_with shapes bs ls) at slot.count ≡ r
          → IsOk (given r (λ m. reads shapes bs slot.to n (pos n) (elements_behind n slot.to.size m))) → IsFilled (store_with shapes (bs ++ cs) ms) at slot
      by_count n e (Ok m) f h =
          filled_by (store_with shapes (bs ++ cs) ms) slot at n m (loaded_before Word (place_in at slot.offset) n bs cs e) (more_count at slot.count m f)
          (more_reads slot.to n (pos n) (elements_behind n slot.to.size m) h)
      by_count n e (Err x) f h = absurd cc

      by : (o : Option ℕ) → loaded Word (place_in at slot.offset) bs ≡ o
          → IsOk (given_some o (λ n. given (counted (store_with shapes bs ls) at slot.count) (λ m. reads shapes bs slot.to n (pos n) (elements_behind n slot.to.size m))))
          → IsFilled (store_with shapes (bs ++ cs) ms) at slot
      by None e h = absurd cc
      by (Some n) e h = by_count n e (counted (store_with shapes bs ls) at slot.count) refl h

-- ---- the new block

least : (low : ℕ) (bs : List Block) (next : ℕ) → AreApart low bs next → low ≤ next
least low [] next a = a
least low (b ∷ bs) next a = let there = least (end_of b + 1) bs next a.1 in let here = a.0 in omega arith

found_zero : (width : Width) (a low : ℕ) (bs : List Block) (next : ℕ) (b : Block) → AreApart low bs next → next ≤ a
    → ((i : ℕ) → number_at width b.bytes i ≡ 0) → list_any (has width a) (bs ++ b ∷ []) ≡ true → found width a (bs ++ b ∷ []) ≡ Some 0
unfolding found
found_zero width a low [] next b apart h zeros e = by (has width a b) e
  where
    by : (here : Bool) → (here || false) ≡ true → (if here then Some (number_at width b.bytes (a - b.base)) else None) ≡ Some 0
    by true e = ap Some (zeros (a - b.base))
    by false e = absurd cc
found_zero width a low (c ∷ bs) next b apart h zeros e = by (has width a c) refl (found_zero width a (end_of c + 1) bs next b apart.1 h zeros) e
  where
    by : (here : Bool) → has width a c ≡ here → (list_any (has width a) (bs ++ b ∷ []) ≡ true → found width a (bs ++ b ∷ []) ≡ Some 0)
        → (here || list_any (has width a) (bs ++ b ∷ [])) ≡ true
        → (if here then Some (number_at width c.bytes (a - c.base)) else found width a (bs ++ b ∷ [])) ≡ Some 0
    by true f later e =
        let p = inside width a c f in
        let top = p.1 in
        let behind = least (end_of c + 1) bs next apart.1 in
        absurd (omega arith)
    by false f later e = later e

get_last : {X : Type 0} (xs : List X) (x : X) (k : ℕ) (y : X) → slice_get (xs ++ x ∷ []) k ≡ Some y → (slice_get xs k ≡ Some y) ⊎ (x ≡ y)
get_last [] x zero y e = inr cc
get_last [] x (suc k) y e = absurd cc
get_last (z ∷ xs) x zero y e = inl e
get_last (z ∷ xs) x (suc k) y e = get_last xs x k y e

module _ (p : Typed) (parts : AreSlotParts p) (shapes : List Shape) (ls ms : List ℕ) (bs : List Block) (next count : ℕ) (to : Pointee)
    (sound : AreSound p bs next) (made : IsMade p next to count) where
  abbrev after : List Block
  after = bs ++ fresh to next count ∷ []

  zero_load : (number i offset : ℕ) (width : Width) → slice_get after number ≡ Some (fresh to next count) → i < count → IsPart p.layout to.element offset width
      → loaded width (place_in (next + i * to.size) offset) after ≡ Some 0
  zero_load number i offset width e h part =
      let grown = sound_with p bs next to count sound made in
      let cell = part_cell p after number i (fresh to next count) offset width e h part in
      let is = part_place p after _ grown (next + i * to.size) offset width true cell in
      let a = next + i * to.size + offset in
      let there = lies_parts width a 0 after (cell_there p after grown.memory.placed a width true cell) in
      ap (λ x. loaded width x after) is
      ∙ ap (λ t. if t then found width a after else None) there.0
      ∙ found_zero width a 0 bs next (fresh to next count) sound.apart (omega arith) (zero_number width (to.size * count)) there.1

  zero_count : (number i : ℕ) (k : Count) → slice_get after number ≡ Some (fresh to next count) → i < count → IsCountPart p.layout to.element k
      → (m : ℤ) × (counted (store_with shapes after ms) (next + i * to.size) k ≡ Ok m)
  zero_count number i (counts.Fixed n) e h part = (n, refl)
  zero_count number i (counts.Member offset form add) e h part =
      (exact form 0 +ℤ add, ap (λ o. given_some o (λ m. Ok (exact form m +ℤ add))) (zero_load number i offset (width_of form) e h part))

  new_filled : (number i : ℕ) (slot : Slot) → slice_get after number ≡ Some (fresh to next count) → i < count → Contains (slots_of p number to.element) slot
      → IsFilled (store_with shapes after ms) (next + i * to.size) slot
  new_filled number i slot e h there =
      let grown = sound_with p bs next to count sound made in
      let part = parts number to.element slot (element_at p after grown.memory.objects number (fresh to next count) e) there in
      let m = zero_count number i slot.count e h part.counted in
      filled_by (store_with shapes after ms) slot (next + i * to.size) 0 m.0 (zero_load number i slot.offset Word e h part.pointer) m.1 refl

  pub made_filled : AreFilled p (store_with shapes bs ls) → AreFilled p (store_with shapes after ms)
  made_filled all number i b slot e h there =
      ⊎_elim
      (λ f. more_filled shapes bs (fresh to next count ∷ []) ls ms slot (b.base + i * b.size) (all number i b slot f h there))
      (λ same. subst (λ (x : Block). IsFilled (store_with shapes after ms) (x.base + i * x.size) slot) same
      (new_filled number i slot (subst (λ (x : Block). slice_get after number ≡ Some x) (sym same) e)
      (subst (λ (x : Block). i < x.count) (sym same) h)
      (subst (λ (x : Block). Contains (slots_of p number x.element) slot) (sym same) there)))
      (get_last bs (fresh to next count) number b e)
