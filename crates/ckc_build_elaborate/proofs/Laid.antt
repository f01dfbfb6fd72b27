-- Static objects that lie apart are blocks that lie apart.
use Rattle.std.proofs.Common.{◌≡◌, ◌≤◌, ℕ, zero, suc, ◌+◌, ◌-◌, ◌*◌, ◌/◌, Bool, List, [], ◌∷◌, ◌++◌, length, map, replicate, length-append, sym, subst, refl, arith}
use Rattle.std.proofs.lemmas.List.{length-replicate}
use Rattle.std.specs.Prelude.{Option, None, Some}
use Rattle.std.specs.List.{All, AllPairs}
use Rattle.ckc_base.specs.Memory.{data_end}
use Rattle.ckc_types.specs.declared.types.Structs.{Structs}
use Rattle.ckc_typed.specs.declared.typed.StaticObject.{StaticObject}
use Rattle.ckc_typed.specs.Constants.{size_of}
use Rattle.ckc_typing.specs.Objects.{LieApart, HasRoom, HaveRoom}
use Rattle.ckc_source.specs.Blocks.{Block, end_of, block_of, place_behind, first_place}
use Rattle.ckc_source.specs.LaidOut.{AreApart}
use Rattle.ckc_build_elaborate.specs.Lists.{beside}
use Rattle.ckc_build_elaborate.specs.Objects.{object_elaborated}

module _ (structs : Structs) where
  abbrev room : StaticObject → ℕ
  room o = size_of structs o.element * o.count

  abbrev last : StaticObject → ℕ
  last o = o.at + size_of structs o.element * o.count

  abbrev made : Option Bool → StaticObject → Block
  made flag o = block_of (object_elaborated structs flag o)

  abbrev pub blocks : List Bool → List StaticObject → List Block
  blocks flags os = map block_of (beside (object_elaborated structs) flags os)

  filled : (o : StaticObject) → length o.initial ≤ room o → length (o.initial ++ replicate (room o - length o.initial) 0) ≡ room o
  filled o h = simp (length-append, length-replicate) (omega arith)

  ends : (flag : Option Bool) (o : StaticObject) → length o.initial ≤ room o → end_of (made flag o) ≡ last o
  ends flag o h = let e = filled o h in omega arith

  link : (low place : ℕ) (flag : Option Bool) (o : StaticObject) (bs : List Block) → low ≤ o.at → length o.initial ≤ room o → AreApart (last o + 1) bs (place_behind ((last o + 15) / 8 * 8) bs) → AreApart low (made flag o ∷ bs) (place_behind place (made flag o ∷ bs))
  link low place flag o bs h w rest =
      let P : ℕ → Type 0 = λ e. AreApart (e + 1) bs (place_behind ((e + 15) / 8 * 8) bs) in
      (h, subst P (sym (ends flag o w)) rest)

  abbrev Pairs : List StaticObject → Type 0
  Pairs os = AllPairs (λ a b. last a + 8 ≤ b.at) os

  behind : (o : StaticObject) (os : List StaticObject) → Pairs (o ∷ os) → All (λ b. last o + 1 ≤ b.at) os
  behind o os r = λ k d h. omega (arith, r 0 (suc k) d (omega arith) (omega arith))

  later : (o : StaticObject) (os : List StaticObject) → Pairs (o ∷ os) → Pairs os
  later o os r = λ i j d h k. r (suc i) (suc j) d (omega arith) (omega arith)

  rest_of : (P : StaticObject → Type 0) (o : StaticObject) (os : List StaticObject) → All P (o ∷ os) → All P os
  rest_of P o os a = λ k d h. a (suc k) d (omega arith)

  apart_from : (low place : ℕ) (flags : List Bool) (os : List StaticObject) → low ≤ place → All (λ o. low ≤ o.at) os → Pairs os → HaveRoom structs os → AreApart low (blocks flags os) (place_behind place (blocks flags os))
  apart_from low place flags [] h a r w = h
  apart_from low place [] (o ∷ os) h a r w =
      link low place None o (blocks [] os) (a 0 o (omega arith)) (w 0 o (omega arith))
      (apart_from (last o + 1) ((last o + 15) / 8 * 8) [] os (omega arith) (behind o os r) (later o os r) (rest_of (HasRoom structs) o os w))
  apart_from low place (f ∷ fs) (o ∷ os) h a r w =
      link low place (Some f) o (blocks fs os) (a 0 o (omega arith)) (w 0 o (omega arith))
      (apart_from (last o + 1) ((last o + 15) / 8 * 8) fs os (omega arith) (behind o os r) (later o os r) (rest_of (HasRoom structs) o os w))

  -- where the first one begins, the others begin later
  from_first : (os : List StaticObject) → LieApart structs os → All (λ o. first_place ≤ o.at) os
  from_first [] a = λ k d h. omega (arith, h)
  from_first (o ∷ os) a = by
    where
      first : o.at ≡ 0x02000008
      first = a.first o os refl

      by : All (λ o. first_place ≤ o.at) (o ∷ os)
      by zero d h = omega (arith, first)
      by (suc k) d h = omega (arith, first, a.apart 0 (suc k) d (omega arith) h)

  pub apart_is : (flags : List Bool) (os : List StaticObject) → LieApart structs os → HaveRoom structs os → AreApart first_place (blocks flags os) (place_behind first_place (blocks flags os))
  apart_is flags os a w = apart_from first_place first_place flags os (omega arith) (from_first os a) a.apart w

  next_link : (place : ℕ) (flag : Option Bool) (o : StaticObject) (bs : List Block) → length o.initial ≤ room o → place_behind ((last o + 15) / 8 * 8) bs ≤ data_end → place_behind place (made flag o ∷ bs) ≤ data_end
  next_link place flag o bs w rest =
      let P : ℕ → Type 0 = λ e. place_behind ((e + 15) / 8 * 8) bs ≤ data_end in
      subst P (sym (ends flag o w)) rest

  pub below_is : (place : ℕ) (flags : List Bool) (os : List StaticObject) → place ≤ data_end → All (λ o. last o ≤ 0x02400000) os → HaveRoom structs os → place_behind place (blocks flags os) ≤ data_end
  below_is place flags [] h a w = h
  below_is place [] (o ∷ os) h a w =
      let here : last o ≤ 0x02400000 = a 0 o (omega arith) in
      next_link place None o (blocks [] os) (w 0 o (omega arith)) (below_is ((last o + 15) / 8 * 8) [] os (omega arith) (rest_of (λ o. last o ≤ 0x02400000) o os a) (rest_of (HasRoom structs) o os w))
  below_is place (f ∷ fs) (o ∷ os) h a w =
      let here : last o ≤ 0x02400000 = a 0 o (omega arith) in
      next_link place (Some f) o (blocks fs os) (w 0 o (omega arith)) (below_is ((last o + 15) / 8 * 8) fs os (omega arith) (rest_of (λ o. last o ≤ 0x02400000) o os a) (rest_of (HasRoom structs) o os w))
