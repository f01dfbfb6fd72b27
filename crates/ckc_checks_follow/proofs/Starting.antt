-- The memory begins with the bytes of the static objects.
use Rattle.std.proofs.Common.{◌≡◌, inl, inr, ℕ, zero, suc, ◌+◌, ◌-◌, ◌*◌, ◌/◌, ◌%◌, ◌^◌, ◌≤◌, ◌<◌, List, [], ◌∷◌, ◌++◌, length, map, replicate, refl, sym, ◌∙◌, ap, subst, arith, length-append}
use Rattle.std.specs.Prelude.{Bool, true, false, if◌then◌else◌, slice_index, Some, None}
use Rattle.std.proofs.lemmas.List.{get_or_append_left, get_or-append_right, get_or-replicate, length-replicate}
use Rattle.ckc_base.specs.Memory.{Memory, first_memory, bytes_from, is_data, data_start, data_end}
use Rattle.ckc_base.proofs.Travelling.{below_or_from}
use Rattle.ckc_source.specs.declared.program.Object.{Object}
use Rattle.ckc_source.specs.Blocks.{Block, block_of, end_of, place_behind, first_place}
use Rattle.ckc_source.specs.LaidOut.{AreApart, AreBytes, HoldBytes}
use Rattle.ckc_checks_follow.specs.code.Inserted.{image, word_bytes, first_bytes}
use Rattle.ckc_checks_follow.proofs.Bytes.{Spells, SameBytes, joined, none_left, apart_ordered, in_data}
use Rattle.ckc_checks_follow.proofs.Flat.{HoldsBytes, SameMemory}

abbrev front_of : ℕ → Object → List ℕ
front_of a o = replicate (o.at - a) 0 ++ o.initial

front_length : (a : ℕ) (o : Object) → length (front_of a o) ≡ (o.at - a) + length o.initial
front_length a o =
    length-append (replicate (o.at - a) 0) o.initial ∙ ap (λ n. n + length o.initial) (length-replicate {A = ℕ} (o.at - a) 0)

image_later : (a x : ℕ) (o : Object) (objects : List Object) → a ≤ o.at → o.at + length o.initial ≤ x
    → slice_index (image a (o ∷ objects)) (x - a) ≡ slice_index (image (o.at + length o.initial) objects) (x - (o.at + length o.initial))
image_later a x o objects le h =
    let rest = image (o.at + length o.initial) objects in
    let n = (o.at - a) + length o.initial in
    let e : x - a - n ≡ x - (o.at + length o.initial) = omega arith in
    get_or-append_right (front_of a o) rest n (x - a) 0 (front_length a o) (omega arith)
    ∙ ap (slice_index rest) e

image_initial : (a x : ℕ) (o : Object) (objects : List Object) → a ≤ o.at → o.at ≤ x → x < o.at + length o.initial
    → slice_index (image a (o ∷ objects)) (x - a) ≡ slice_index o.initial (x - o.at)
image_initial a x o objects le h k =
    let rest = image (o.at + length o.initial) objects in
    let e : x - a - (o.at - a) ≡ x - o.at = omega arith in
    get_or_append_left (front_of a o) rest 0 (x - a) (omega (arith, front_length a o))
    ∙ get_or-append_right (replicate (o.at - a) 0) o.initial (o.at - a) (x - a) 0 (length-replicate {A = ℕ} (o.at - a) 0) (omega arith)
    ∙ ap (slice_index o.initial) e

image_gap : (a x : ℕ) (o : Object) (objects : List Object) → a ≤ x → x < o.at → slice_index (image a (o ∷ objects)) (x - a) ≡ 0
image_gap a x o objects le h =
    let rest = image (o.at + length o.initial) objects in
    get_or_append_left (front_of a o) rest 0 (x - a) (omega (arith, front_length a o))
    ∙ get_or_append_left (replicate (o.at - a) 0) o.initial 0 (x - a) (omega (arith, length-replicate {A = ℕ} (o.at - a) 0))
    ∙ get_or-replicate (o.at - a) (x - a) 0 0 (omega arith)

-- ahead of the objects the image is zero
image_ahead : (a x low limit : ℕ) (objects : List Object) → AreApart low (map block_of objects) limit → a ≤ x → x < low → slice_index (image a objects) (x - a) ≡ 0
image_ahead a x low limit [] apart le h = refl
image_ahead a x low limit (o ∷ objects) apart le h = image_gap a x o objects le (omega (arith, apart.0))

block_length : (o : Object) → length (block_of o).bytes ≡ length o.initial + (o.size * o.count - length o.initial)
block_length o =
    length-append o.initial (replicate (o.size * o.count - length o.initial) 0)
    ∙ ap (λ n. length o.initial + n) (length-replicate {A = ℕ} (o.size * o.count - length o.initial) 0)

object_spelled : (memory : Memory) (a limit : ℕ) (o : Object) (objects : List Object) → ((x : ℕ) → a ≤ x → x < data_end → memory x ≡ Some (slice_index (image a (o ∷ objects)) (x - a)))
    → AreApart (end_of (block_of o) + 1) (map block_of objects) limit → a ≤ o.at → limit ≤ data_end → Spells memory o.at (block_of o).bytes
object_spelled memory a limit o objects agrees apart le region i h =
    let room = o.size * o.count - length o.initial in
    let size = block_length o in
    let last : end_of (block_of o) + 1 ≤ limit = apart_ordered (end_of (block_of o) + 1) limit (map block_of objects) apart in
    let x = o.at + i in
    agrees x (omega arith) (omega (arith, last, size))
    ∙ ap Some (elim (below_or_from i (length o.initial)) [
      | inl less ↦
          let e : x - o.at ≡ i = omega arith in
          image_initial a x o objects le (omega arith) (omega arith) ∙ ap (slice_index o.initial) e
          ∙ sym (get_or_append_left o.initial (replicate room 0) 0 i less)
      | inr p ↦
          let zero_there : slice_index (image (o.at + length o.initial) objects) (x - (o.at + length o.initial)) ≡ 0 =
          image_ahead (o.at + length o.initial) x (end_of (block_of o) + 1) limit objects apart (omega (arith, p.1)) (omega arith) in
          image_later a x o objects le (omega (arith, p.1)) ∙ zero_there
          ∙ sym (get_or-append_right o.initial (replicate room 0) (length o.initial) i 0 refl (omega (arith, p.1))
          ∙ get_or-replicate room (i - length o.initial) 0 0 (omega (arith, p.1, size)))
    ])

objects_spelled : (memory : Memory) (a low limit : ℕ) (objects : List Object) → ((x : ℕ) → a ≤ x → x < data_end → memory x ≡ Some (slice_index (image a objects) (x - a)))
    → AreApart low (map block_of objects) limit → a ≤ low → limit ≤ data_end → SameBytes (map block_of objects) memory
objects_spelled memory a low limit [] agrees apart le region = tt
objects_spelled memory a low limit (o ∷ objects) agrees apart le region = (
  object_spelled memory a limit o objects agrees apart.1 (omega (arith, apart.0)) region,
  objects_spelled memory (o.at + length o.initial) (end_of (block_of o) + 1) limit objects
      (λ x h k. agrees x (omega (arith, apart.0)) k ∙ ap Some (image_later a x o objects (omega (arith, apart.0)) h))
      apart.1 (omega (arith, block_length o)) region,
)

-- the first memory after the heap word
first_agrees : (objects : List Object) (x : ℕ) → data_start + 4 ≤ x → x < data_end
    → first_memory (first_bytes objects) x ≡ Some (slice_index (image (data_start + 4) objects) (x - (data_start + 4)))
unfolding first_memory
first_agrees objects x h k =
    let word = word_bytes (place_behind first_place (map block_of objects)) in
    let rest = image (data_start + 4) objects in
    let e : x - data_start - 4 ≡ x - (data_start + 4) = omega arith in
    ap (λ b. if b then Some (slice_index (first_bytes objects) (x - data_start)) else None) (in_data x (omega arith) k)
    ∙ ap Some (get_or-append_right word rest 4 (x - data_start) 0 refl (omega arith) ∙ ap (slice_index rest) e)

objects_same : (objects : List Object) (limit : ℕ) → AreApart first_place (map block_of objects) limit → limit ≤ data_end
    → SameBytes (map block_of objects) (first_memory (first_bytes objects))
objects_same objects limit apart region =
    objects_spelled (first_memory (first_bytes objects)) (data_start + 4) first_place limit objects (first_agrees objects) apart (omega arith) region

-- ---- after the objects

apart_wider : (low limit wide : ℕ) (bs : List Block) → AreApart low bs limit → limit ≤ wide → AreApart low bs wide
apart_wider low limit wide [] apart h = omega arith
apart_wider low limit wide (b ∷ bs) apart h = (apart.0, apart_wider (end_of b + 1) limit wide bs apart.1 h)

image_past : (a x low limit : ℕ) (objects : List Object) → AreApart low (map block_of objects) limit → a ≤ low → limit ≤ x → slice_index (image a objects) (x - a) ≡ 0
image_past a x low limit [] apart le h = refl
image_past a x low limit (o ∷ objects) apart le h =
    let last = apart_ordered (end_of (block_of o) + 1) limit (map block_of objects) apart.1 in
    image_later a x o objects (omega (arith, apart.0)) (omega (arith, last, block_length o))
    ∙ image_past (o.at + length o.initial) x (end_of (block_of o) + 1) limit objects apart.1 (omega (arith, block_length o)) h

-- ---- bytes

bytes_front : (xs ys : List ℕ) → AreBytes (xs ++ ys) → AreBytes xs
bytes_front [] ys h = tt
bytes_front (x ∷ xs) ys h = (h.0, bytes_front xs ys h.1)

bytes_append : (xs ys : List ℕ) → AreBytes xs → AreBytes ys → AreBytes (xs ++ ys)
bytes_append [] ys h k = k
bytes_append (x ∷ xs) ys h k = (h.0, bytes_append xs ys h.1 k)

zero_bytes : (n : ℕ) → AreBytes (replicate n 0)
zero_bytes zero = tt
zero_bytes (suc n) = (omega arith, zero_bytes n)

image_bytes : (a : ℕ) (objects : List Object) → HoldBytes (map block_of objects) → AreBytes (image a objects)
image_bytes a [] h = tt
image_bytes a (o ∷ objects) h =
    let rest = image (o.at + length o.initial) objects in
    bytes_append (front_of a o) rest
    (bytes_append (replicate (o.at - a) 0) o.initial (zero_bytes (o.at - a)) (bytes_front o.initial (replicate (o.size * o.count - length o.initial) 0) h.0))
    (image_bytes (o.at + length o.initial) objects h.1)

byte_at : (xs : List ℕ) (i : ℕ) → AreBytes xs → slice_index xs i < 256
byte_at [] i h = omega arith
byte_at (x ∷ xs) zero h = h.0
byte_at (x ∷ xs) (suc i) h = byte_at xs i h.1

word_is_bytes : (n : ℕ) → AreBytes (word_bytes n)
word_is_bytes n = (omega arith, (omega arith, (omega arith, (omega arith, tt))))

first_holds : (initial : List ℕ) → AreBytes initial → HoldsBytes (first_memory initial)
unfolding first_memory
first_holds initial h q b e = by (is_data q) e
  where
    by : (there : Bool) → (if there then Some (slice_index initial (q - data_start)) else None) ≡ Some b → b < 256
    by true e =
        let same : slice_index initial (q - data_start) ≡ b = cc in
        subst (λ (k : ℕ). k < 256) same (byte_at initial (q - data_start) h)
    by false e = absurd cc

-- ---- the heap word

word_byte : (objects : List Object) (k : ℕ) → k < 4
    → first_memory (first_bytes objects) (data_start + k) ≡ Some (slice_index (word_bytes (place_behind first_place (map block_of objects))) k)
unfolding first_memory
word_byte objects k h =
    let word = word_bytes (place_behind first_place (map block_of objects)) in
    let x = data_start + k in
    let e : x - data_start ≡ k = omega arith in
    ap (λ b. if b then Some (slice_index (first_bytes objects) (x - data_start)) else None) (in_data x (omega arith) (omega arith))
    ∙ ap Some (ap (slice_index (first_bytes objects)) e ∙ get_or_append_left word (image (data_start + 4) objects) 0 k h)

first_word : (objects : List Object) → place_behind first_place (map block_of objects) < 2 ^ 32
    → bytes_from (first_memory (first_bytes objects)) 4 data_start ≡ Some (place_behind first_place (map block_of objects))
first_word objects h =
    let m = first_memory (first_bytes objects) in
    let v = place_behind first_place (map block_of objects) in
    let x = v % 256 in
    let y = v / 256 % 256 in
    let z = v / 65536 % 256 in
    let w = v / 16777216 % 256 in
    let one = joined m 0 (data_start + 3) w 0 (word_byte objects 3 (omega arith)) (none_left m (data_start + 4)) in
    let two = joined m 1 (data_start + 2) z (w + 256 * 0) (word_byte objects 2 (omega arith)) one in
    let three = joined m 2 (data_start + 1) y (z + 256 * (w + 256 * 0)) (word_byte objects 1 (omega arith)) two in
    joined m 3 (data_start + 0) x (y + 256 * (z + 256 * (w + 256 * 0))) (word_byte objects 0 (omega arith)) three
    ∙ ap Some (omega arith)

pub first_same : (objects : List Object) → let next = place_behind first_place (map block_of objects) in
    AreApart first_place (map block_of objects) next → next ≤ data_end → HoldBytes (map block_of objects)
    → SameMemory (map block_of objects) next (first_memory (first_bytes objects))
first_same objects apart region hold =
    let next = place_behind first_place (map block_of objects) in
    let first = apart_ordered first_place next (map block_of objects) apart in
    let bytes : AreBytes (first_bytes objects) = bytes_append (word_bytes next) (image (data_start + 4) objects) (word_is_bytes next) (image_bytes (data_start + 4) objects hold) in
    record {
      bytes = objects_same objects next apart region;
      apart = apart;
      within = apart_wider first_place next (data_end + 1) (map block_of objects) apart (omega (arith, region));
      holds = first_holds (first_bytes objects) bytes;
      zeros = λ x h k. first_agrees objects x (omega (arith, first)) k ∙ ap Some (image_past (data_start + 4) x first_place next objects apart (omega arith) h);
      word = first_word objects (omega (arith, region));
      low = omega (arith, region);
    }
