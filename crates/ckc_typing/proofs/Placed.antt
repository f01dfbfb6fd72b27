-- Objects that are placed one after another.
use Rattle.std.proofs.Common.{◌≡◌, ◌≤◌, ℕ, zero, suc, ◌+◌, ◌*◌, ◌%◌, List, [], ◌∷◌, Option, None, Some, ap, sym, arith}
use Rattle.std.specs.Prelude.{slice_get, option_map}
use Rattle.std.specs.List.{All, AllPairs}
use Rattle.std.proofs.lemmas.List.Elements.{All-nil, All-cons}
use Rattle.std.proofs.lemmas.List.Kept.{AllPairs-cons}
use Rattle.ckc_types.specs.declared.types.Structs.{Structs}
use Rattle.ckc_types.proofs.Multiples.{next_is_least}
use Rattle.ckc_typed.specs.declared.typed.StaticObject.{StaticObject}
use Rattle.ckc_base.specs.MemoryMap.{data_start}
use Rattle.ckc_typed.specs.Statics.{placed, begin_behind, end_of_block, end_of_blocks}
use Rattle.ckc_typing.specs.Objects.{end_of}
use Rattle.ckc_typing.proofs.PlacingTurns.{ends_later}

none_is_some : {A : Type 0} (a : A) → ◌≡◌ {A = Option A} None (Some a) → ⊥
none_is_some a e = cc

nil_is_cons : {A : Type 0} (a : A) (rest : List A) → ◌≡◌ {A = List A} [] (a ∷ rest) → ⊥
nil_is_cons a rest e = cc

abbrev head_at : List StaticObject → ℕ
head_at [] = 0
head_at (o ∷ os) = o.at

reaches : (end : ℕ) → end + 8 ≤ begin_behind end
reaches end = (next_is_least (end + 8) 8 (omega arith)).reaches

is_eighth : (end : ℕ) → begin_behind end % 8 ≡ 0
is_eighth end =
    let m = (next_is_least (end + 8) 8 (omega arith)).multiple in
    let whole : begin_behind end ≡ m.0 * 8 = m.1 in
    omega arith

module _ (structs : Structs) where
  behind : (low : ℕ) (os : List StaticObject) (end : ℕ) → low ≤ end → All (λ o. low + 8 ≤ o.at) (placed structs end os)
  behind low [] end h = All-nil _
  behind low (o ∷ os) end h =
      let begin : end + 8 ≤ begin_behind end = reaches end in
      let here : low + 8 ≤ begin_behind end = omega arith in
      let on : low ≤ end_of_block structs end o = omega arith in
      All-cons (λ x. low + 8 ≤ x.at) (record o { at = begin_behind end }) (placed structs (end_of_block structs end o) os) here (behind low os (end_of_block structs end o) on)

  pub eighths : (os : List StaticObject) (end : ℕ) → All (λ o. o.at % 8 ≡ 0) (placed structs end os)
  eighths [] end = All-nil _
  eighths (o ∷ os) end = All-cons (λ x. x.at % 8 ≡ 0) (record o { at = begin_behind end }) (placed structs (end_of_block structs end o) os) (is_eighth end) (eighths os (end_of_block structs end o))

  pub apart : (os : List StaticObject) (end : ℕ) → AllPairs (λ a b. end_of structs a + 8 ≤ b.at) (placed structs end os)
  apart [] end = λ i j d h k. omega (arith, h, k)
  apart (o ∷ os) end =
      AllPairs-cons (λ a b. end_of structs a + 8 ≤ b.at) (record o { at = begin_behind end }) (placed structs (end_of_block structs end o) os)
      (behind (end_of_block structs end o) os (end_of_block structs end o) (omega arith)) (apart os (end_of_block structs end o))

  pub within : (os : List StaticObject) (end last : ℕ) → end_of_blocks structs end os ≤ last → All (λ o. end_of structs o ≤ last) (placed structs end os)
  within [] end last h = All-nil _
  within (o ∷ os) end last h =
      let more : end_of_block structs end o ≤ end_of_blocks structs (end_of_block structs end o) os = ends_later structs os (end_of_block structs end o) in
      let here : end_of_block structs end o ≤ last = omega arith in
      All-cons (λ x. end_of structs x ≤ last) (record o { at = begin_behind end }) (placed structs (end_of_block structs end o) os) here (within os (end_of_block structs end o) last h)

  -- an object keeps its place in the list
  pub placed_at : (os : List StaticObject) (end k : ℕ) (o : StaticObject) → slice_get os k ≡ Some o → (at : ℕ) × (slice_get (placed structs end os) k ≡ Some (record o { at = at }))
  placed_at [] end k o e = absurd (none_is_some o e)
  placed_at (x ∷ os) end zero o e = (begin_behind end, ap (λ y. option_map (λ (z : StaticObject). record z { at = begin_behind end }) y) e)
  placed_at (x ∷ os) end (suc k) o e = placed_at os (end_of_block structs end x) k o e

pub first_at : (structs : Structs) (os : List StaticObject) (o : StaticObject) (rest : List StaticObject) → placed structs data_start os ≡ o ∷ rest → o.at ≡ 0x02000008
first_at structs [] o rest e = absurd (nil_is_cons o rest e)
first_at structs (x ∷ os) o rest e = sym (ap head_at e)
