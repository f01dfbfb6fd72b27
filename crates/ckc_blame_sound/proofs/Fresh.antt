-- A new block lies after the others, its elements are zero, and what was found and true stays so.
use Rattle.std.proofs.Common.{◌≡◌, ℕ, zero, suc, ◌+◌, ◌-◌, ◌*◌, ◌/◌, ◌%◌, ◌≤◌, ◌<◌, List, [], ◌∷◌, ◌++◌, length, replicate, refl, ◌∙◌, ap, arith, le_refl}
use Rattle.std.proofs.lemmas.List.{length-replicate}
use Rattle.std.specs.Prelude.{Bool, true, false, nat_le, nat_lt, ◌&&◌, ◌||◌, if◌then◌else◌, slice_index, slice_get, Some, None}
use Rattle.std.specs.List.{All, list_any}
use Rattle.std.proofs.lemmas.Bool.{and_parts, leb-true, ltb-true}
use Rattle.std.proofs.lemmas.List.Elements.{All-nil, All-cons, All-head, All-tail}
use Rattle.std.proofs.lemmas.List.Folds.{list_any-append}
use Rattle.std.proofs.Math.Nat.{mul_comm}
use Rattle.ckc_base.specs.declared.arithmetic.Width.{Width}
use Rattle.ckc_base.specs.declared.arithmetic.Width.TheVariants.{Byte, Word}
use Rattle.ckc_base.specs.Memory.{heap_has_room, next_place, data_end}
use Rattle.ckc_types.specs.declared.types.Structs.{Structs}
use Rattle.ckc_typed.specs.declared.typed.Typed.{Typed}
use Rattle.ckc_source.specs.declared.expr.Pointee.{Pointee}
use Rattle.ckc_source.specs.declared.program.Object.{Object}
use Rattle.ckc_source.specs.declared.program.Shape.{Shape}
use Rattle.ckc_source.specs.Blocks.{Block, has, number_at, found, loaded, is_aligned, fresh}
use Rattle.ckc_source.specs.Runs.{is_in, is_true}
use Rattle.ckc_source.proofs.Keeping.{apart_snoc}
use Rattle.ckc_blame_sound.specs.Sound.{IsPlaced, AreObjects}
use Rattle.ckc_blame_sound.specs.Cells.{IsCell, AreSound, IsMade}
use Rattle.ckc_blame_sound.proofs.Bytes.{zero_bytes, hold_behind}

-- ---- zeros

zeros_at : (n k : ℕ) → slice_index (replicate n 0) k ≡ 0
zeros_at zero k = refl
zeros_at (suc n) zero = refl
zeros_at (suc n) (suc k) = zeros_at n k

pub zero_number : (width : Width) (n i : ℕ) → number_at width (replicate n 0) i ≡ 0
zero_number Byte n i = zeros_at n i
zero_number Word n i =
    let a = zeros_at n i in
    let b = zeros_at n (i + 1) in
    let c = zeros_at n (i + 2) in
    let d = zeros_at n (i + 3) in
    rw (a, b, c, d) refl

-- ---- what was there stays

pub found_before : (width : Width) (a n : ℕ) (bs cs : List Block) → found width a bs ≡ Some n → found width a (bs ++ cs) ≡ Some n
unfolding found
found_before width a n [] cs e = absurd cc
found_before width a n (b ∷ bs) cs e = by (found_before width a n bs cs) (has width a b) e
  where
    by : (found width a bs ≡ Some n → found width a (bs ++ cs) ≡ Some n) → (here : Bool)
        → (if here then Some (number_at width b.bytes (a - b.base)) else found width a bs) ≡ Some n
        → (if here then Some (number_at width b.bytes (a - b.base)) else found width a (bs ++ cs)) ≡ Some n
    by later true e = e
    by later false e = later e

pub loaded_before : (width : Width) (a n : ℕ) (bs cs : List Block) → loaded width a bs ≡ Some n → loaded width a (bs ++ cs) ≡ Some n
loaded_before width a n bs cs e = by (is_aligned width a) e
  where
    by : (even : Bool) → (if even then found width a bs else None) ≡ Some n → (if even then found width a (bs ++ cs) else None) ≡ Some n
    by true e = found_before width a n bs cs e
    by false e = absurd cc

pub true_before : (shapes : List Shape) (bs cs : List Block) (to : Pointee) (n low high : ℕ) → is_true shapes bs to n low high ≡ true
    → is_true shapes (bs ++ cs) to n low high ≡ true
true_before shapes bs cs to n low high e =
    list_any-append (is_in shapes to n low high) bs cs ∙ ap (λ t. t || list_any (is_in shapes to n low high) cs) e

-- ---- the new block

pub fresh_length : (to : Pointee) (base count : ℕ) → length (fresh to base count).bytes ≡ to.size * count
fresh_length to base count = length-replicate {A = ℕ} (to.size * count) 0

room_parts : (place count size : ℕ) → heap_has_room place count size ≡ true → (0 < count) × (place + count * size ≤ data_end)
room_parts place count size e =
    let a = and_parts (nat_lt 0 count && nat_lt count 2147483648) (nat_le (place + count * size) data_end) e in
    let b = and_parts (nat_lt 0 count) (nat_lt count 2147483648) a.0 in
    (ltb-true 0 count b.0, leb-true (place + count * size) data_end a.1)

pub fresh_placed : (p : Typed) (bs : List Block) (place : ℕ) (to : Pointee) (count : ℕ) → AreSound p bs place → IsMade p place to count
    → IsPlaced p (fresh to place count)
fresh_placed p bs place to count sound made =
    let long = fresh_length to place count in
    let room = room_parts place count to.size made.room in
    let top = room.1 in
    let turned = mul_comm to.size count in
    record {
      aligned = sound.memory.aligned;
      above = sound.memory.above;
      below = omega arith;
      size = made.size;
      sized = made.sized;
      whole = long;
      terminated = λ t. record { integers = made.terminated t; some = room.0; zero = λ i l. zeros_at (to.size * count) (to.size * (count - 1) + i) };
    }

all_behind : {X : Type 0} (P : X → Type 0) (xs : List X) (y : X) → All P xs → P y → All P (xs ++ y ∷ [])
all_behind P [] y all h = All-cons P y [] h (All-nil P)
all_behind P (x ∷ xs) y all h = All-cons P x (xs ++ y ∷ []) (All-head P x xs all) (all_behind P xs y (All-tail P x xs all) h)

objects_before : (os : List Object) (bs : List Block) (b : Block) → AreObjects os bs → AreObjects os (bs ++ b ∷ [])
objects_before [] bs b h = tt
objects_before (o ∷ os) [] b h = absurd h
objects_before (o ∷ os) (c ∷ bs) b h = (h.0, objects_before os bs b h.1)

place_past : (a k : ℕ) → a + k + 1 ≤ (a + k + 15) / 8 * 8
place_past a k = omega arith

place_even : (a : ℕ) → (a / 8 * 8) % 8 ≡ 0
place_even a = omega arith

pub sound_with : (p : Typed) (bs : List Block) (place : ℕ) (to : Pointee) (count : ℕ) → AreSound p bs place → IsMade p place to count
    → AreSound p (bs ++ fresh to place count ∷ []) (next_place place count to.size)
sound_with p bs place to count sound made =
    let long = fresh_length to place count in
    let past = place_past place (count * to.size) in
    let turned = mul_comm to.size count in
    let above = sound.memory.above in
    record {
      apart = apart_snoc 0 bs place (fresh to place count) (next_place place count to.size) sound.apart (le_refl place) (omega arith);
      bytes = hold_behind bs (fresh to place count) sound.bytes (zero_bytes (to.size * count));
      memory = record {
        placed = all_behind (IsPlaced p) bs (fresh to place count) sound.memory.placed (fresh_placed p bs place to count sound made);
        objects = objects_before _ bs (fresh to place count) sound.memory.objects;
        aligned = place_even (place + count * to.size + 15);
        above = omega arith;
      };
    }

-- ---- objects of elements

pub get_before : {X : Type 0} (xs ys : List X) (k : ℕ) (x : X) → slice_get xs k ≡ Some x → slice_get (xs ++ ys) k ≡ Some x
get_before [] ys k x e = absurd cc
get_before (z ∷ xs) ys zero x e = e
get_before (z ∷ xs) ys (suc k) x e = get_before xs ys k x e

pub cell_before : (structs : Structs) (bs cs : List Block) (a : ℕ) (width : Width) (z : Bool) → IsCell structs bs a width z → IsCell structs (bs ++ cs) a width z
cell_before structs bs cs a width z cell = record {
  number = cell.number;
  block = cell.block;
  there = get_before bs cs cell.number cell.block cell.there;
  index = cell.index;
  below = cell.below;
  offset = cell.offset;
  part = cell.part;
  address = cell.address;
  ends = cell.ends;
}
