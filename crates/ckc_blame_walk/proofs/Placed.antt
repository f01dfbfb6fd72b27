-- The blocks of static objects lie as they must, and end with zero if they are null-terminated.
use Rattle.std.proofs.Common.{◌≡◌, ◌≤◌, ◌<◌, ℕ, ◌+◌, ◌-◌, ◌*◌, ◌/◌, ◌%◌, Bool, true, List, [], ◌∷◌, length, length-append, map, replicate, refl, ◌∙◌, arith}
use Rattle.std.specs.Prelude.{Option, None, Some}
use Rattle.std.specs.List.{All}
use Rattle.std.proofs.lemmas.List.{length-replicate}
use Rattle.std.proofs.lemmas.List.Elements.{All-nil, All-cons, All-head, All-tail}
use Rattle.ckc_base.specs.MemoryMap.{data_start, first_place, statics_end}
use Rattle.ckc_types.specs.declared.types.Structs.{Structs}
use Rattle.ckc_types.proofs.Multiples.{next_is_least}
use Rattle.ckc_typed.specs.declared.typed.StaticObject.{StaticObject}
use Rattle.ckc_typed.specs.declared.typed.Typed.{Typed}
use Rattle.ckc_typed.specs.Constants.{size_of}
use Rattle.ckc_typed.specs.Statics.{placed, begin_behind, end_of_block, end_of_blocks}
use Rattle.ckc_typing.proofs.PlacingTurns.{ends_later}
use Rattle.ckc_source.specs.declared.program.Object.{Object}
use Rattle.ckc_source.specs.Blocks.{Block, end_of, block_of, place_behind}
use Rattle.ckc_build_elaborate.specs.Lists.{beside}
use Rattle.ckc_build_elaborate.specs.Objects.{object_elaborated}
use Rattle.ckc_blame_sound.specs.Sound.{IsTerminated, IsPlaced, AreObjects}
use Rattle.ckc_blame_walk.proofs.Entered.{filled_at, past_at}
use Rattle.ckc_blame_walk.proofs.Starts.{IsBegun}

-- ---- static objects at their places

-- a static object lies where static objects may lie, and begins as it may
pub record IsLaid (structs : Structs) (o : StaticObject) : Type 0 where
  pub begun : IsBegun structs o
  pub aligned : o.at % 8 ≡ 0
  pub above : first_place ≤ o.at
  pub below : o.at + size_of structs o.element * o.count ≤ statics_end

moved : (structs : Structs) (o : StaticObject) (at : ℕ) → IsBegun structs o → IsBegun structs (record o { at = at })
moved structs o at b = record { fits = b.fits; some = b.some; integers = b.integers; ended = b.ended; zeros = b.zeros }

reaches : (end : ℕ) → end + 8 ≤ begin_behind end
reaches end = (next_is_least (end + 8) 8 (omega arith)).reaches

is_eighth : (end : ℕ) → begin_behind end % 8 ≡ 0
is_eighth end =
    let m = (next_is_least (end + 8) 8 (omega arith)).multiple in
    let whole : begin_behind end ≡ m.0 * 8 = m.1 in
    omega arith

pub placed_laid : (structs : Structs) (os : List StaticObject) (end : ℕ) → data_start ≤ end → end_of_blocks structs end os ≤ statics_end
    → All (IsBegun structs) os → All (IsLaid structs) (placed structs end os)
placed_laid structs [] end low high b = All-nil (IsLaid structs)
placed_laid structs (o ∷ os) end low high b =
    let begin = reaches end in
    let more = ends_later structs os (end_of_block structs end o) in
    All-cons (IsLaid structs) (record o { at = begin_behind end }) (placed structs (end_of_block structs end o) os)
    (record {
      begun = moved structs o (begin_behind end) (All-head (IsBegun structs) o os b);
      aligned = is_eighth end;
      above = omega arith;
      below = omega arith;
    })
    (placed_laid structs os (end_of_block structs end o) (omega arith) high (All-tail (IsBegun structs) o os b))

-- ---- blocks

module _ (p : Typed) where
  abbrev pub made : Option Bool → StaticObject → Block
  made flag o = block_of (object_elaborated p.layout flag o)

  made_long : (flag : Option Bool) (o : StaticObject) → IsLaid p.layout o → length (made flag o).bytes ≡ size_of p.layout o.element * o.count
  made_long flag o l =
      let room = l.begun.fits in
      let both = length-append o.initial (replicate (size_of p.layout o.element * o.count - length o.initial) 0) in
      let more = length-replicate {A = ℕ} (size_of p.layout o.element * o.count - length o.initial) 0 in
      omega arith

  ended : (flag : Option Bool) (o : StaticObject) → IsLaid p.layout o → o.terminated ≡ true → IsTerminated (made flag o)
  ended flag o l t = record {
    integers = l.begun.integers t;
    some = l.begun.some;
    zero = λ i h.
        let room = l.begun.ended t in
        filled_at o.initial (size_of p.layout o.element * o.count - length o.initial) (size_of p.layout o.element * (o.count - 1) + i)
        ∙ past_at o.initial (size_of p.layout o.element * (o.count - 1) + i) (omega arith);
  }

  made_placed : (flag : Option Bool) (o : StaticObject) → IsLaid p.layout o → 0 < size_of p.layout o.element → IsPlaced p (made flag o)
  made_placed flag o l sized =
      let long = made_long flag o l in
      let low = l.above in
      let high = l.below in
      record {
        aligned = l.aligned;
        above = low;
        below = omega arith;
        size = refl;
        sized = sized;
        whole = long;
        terminated = λ t. ended flag o l t;
      }

  abbrev HasSize : StaticObject → Type 0
  HasSize o = 0 < size_of p.layout o.element

  pub all_placed : (flags : List Bool) (os : List StaticObject) → All (IsLaid p.layout) os → All HasSize os
      → All (IsPlaced p) (map block_of (beside (object_elaborated p.layout) flags os))
  all_placed flags [] l s = All-nil (IsPlaced p)
  all_placed [] (o ∷ os) l s =
      All-cons (IsPlaced p) (made None o) (map block_of (beside (object_elaborated p.layout) [] os))
      (made_placed None o (All-head (IsLaid p.layout) o os l) (All-head HasSize o os s))
      (all_placed [] os (All-tail (IsLaid p.layout) o os l) (All-tail HasSize o os s))
  all_placed (flag ∷ flags) (o ∷ os) l s =
      All-cons (IsPlaced p) (made (Some flag) o) (map block_of (beside (object_elaborated p.layout) flags os))
      (made_placed (Some flag) o (All-head (IsLaid p.layout) o os l) (All-head HasSize o os s))
      (all_placed flags os (All-tail (IsLaid p.layout) o os l) (All-tail HasSize o os s))

pub are_objects : (os : List Object) → AreObjects os (map block_of os)
are_objects [] = tt
are_objects (o ∷ os) = (refl, are_objects os)

-- ---- the place of the next block

pub place_even : (place : ℕ) (bs : List Block) → place % 8 ≡ 0 → place_behind place bs % 8 ≡ 0
place_even place [] e = e
place_even place (b ∷ bs) e = place_even ((end_of b + 15) / 8 * 8) bs (omega arith)
