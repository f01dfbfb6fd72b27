-- Elements of blocks, and accesses to parts of them, that lie apart.
use Rattle.std.proofs.Common.{◌≡◌, ℕ, zero, suc, ◌+◌, ◌-◌, ◌*◌, ◌/◌, ◌%◌, ◌≤◌, ◌<◌, List, [], ◌∷◌, length, refl, ◌∙◌, ap, arith}
use Rattle.std.specs.Prelude.{Bool, true, false, slice_get, Some, ◌||◌}
use Rattle.std.specs.List.{list_any}
use Rattle.std.proofs.lemmas.Bool.{le-leb, eq-eqb}
use Rattle.std.proofs.Math.Nat.{lt_of_mul-lt-mul_right, mod-add-div, mul_comm, mul-sub, mul-le-mul_right, suc-mul, mul-mod_left}
use Rattle.ckc_base.specs.declared.arithmetic.Width.{Width}
use Rattle.ckc_base.specs.declared.arithmetic.Width.TheVariants.{Byte, Word}
use Rattle.ckc_base.specs.Memory.{width_bytes}
use Rattle.ckc_source.specs.Blocks.{Block, end_of, has, is_aligned, lies_in}
use Rattle.ckc_blame_sound.proofs.Parts.{Lies}

-- ---- numbers

-- an address as far after another as some elements
pub elements_between : (s base a : ℕ) → base ≤ a → a % s ≡ base % s → (i : ℕ) × (a ≡ base + i * s)
elements_between s base a h e =
    let x = mod-add-div a s in
    let y = mod-add-div base s in
    let q = a / s - base / s in
    let less = mul-sub s (a / s) (base / s) in
    let turned = mul_comm q s in
    (q, omega arith)

-- fewer bytes of elements are fewer elements
pub fewer : (s i j : ℕ) → i * s < j * s → i < j
fewer s i j h = lt_of_mul-lt-mul_right s h

-- a whole element lies between
pub element_between : (s i j : ℕ) → i < j → i * s + s ≤ j * s
element_between s i j h =
    let more = suc-mul i s in
    let up : suc i * s ≤ j * s = mul-le-mul_right s (omega arith) in
    omega arith

-- ---- where a part of an element lies

product_even : (i s : ℕ) → s % 4 ≡ 0 → (i * s) % 4 ≡ 0
product_even i s e =
    let x = mod-add-div s 4 in
    let is : s ≡ 4 * (s / 4) = omega arith in
    let again : i * s ≡ i * (s / 4) * 4 = ap (λ k. i * k) is ∙ turn i (s / 4) in
    ap (λ k. k % 4) again ∙ mul-mod_left (i * (s / 4)) 4
  where
    turn : (i k : ℕ) → i * (4 * k) ≡ i * k * 4
    turn i k = grind arith

pub aligned_at : (width : Width) (base size offset i : ℕ) → base % 8 ≡ 0 → Lies size offset width → (base + i * size + offset) % width_bytes width ≡ 0
aligned_at Byte base size offset i e l = omega arith
aligned_at Word base size offset i e l =
    let p = product_even i size l.whole in
    let o = l.even in
    omega arith

-- an access to a part of an element of a block that begins at a multiple of 8
pub part_has : (width : Width) (b : Block) (offset i : ℕ) → length b.bytes ≡ b.size * b.count → i < b.count → Lies b.size offset width
    → has width (b.base + i * b.size + offset) b ≡ true
part_has width b offset i whole h l =
    let room = element_between b.size i b.count h in
    let turned = mul_comm b.size b.count in
    let in_it = l.within in
    let low = le-leb b.base (b.base + i * b.size + offset) (omega arith) in
    let high = le-leb (b.base + i * b.size + offset + width_bytes width) (end_of b) (omega arith) in
    rw (low, high) refl

any_at : {X : Type 0} (p : X → Bool) (xs : List X) (k : ℕ) (x : X) → slice_get xs k ≡ Some x → p x ≡ true → list_any p xs ≡ true
any_at p [] k x e h = absurd cc
any_at p (y ∷ xs) zero x e h = let same : y ≡ x = cc in ap (λ b. b || list_any p xs) (ap p same ∙ h)
any_at p (y ∷ xs) (suc k) x e h = by (p y) (any_at p xs k x e h)
  where
    by : (b : Bool) → list_any p xs ≡ true → (b || list_any p xs) ≡ true
    by true f = refl
    by false f = f

pub part_there : (width : Width) (bs : List Block) (k : ℕ) (b : Block) (offset i : ℕ) → slice_get bs k ≡ Some b → b.base % 8 ≡ 0
    → length b.bytes ≡ b.size * b.count → i < b.count → Lies b.size offset width → lies_in width (b.base + i * b.size + offset) bs ≡ true
part_there width bs k b offset i there even whole h l =
    let a = b.base + i * b.size + offset in
    let one : is_aligned width a ≡ true = eq-eqb (a % width_bytes width) 0 (aligned_at width b.base b.size offset i even l) in
    let two = any_at (has width a) bs k b there (part_has width b offset i whole h l) in
    rw (one, two) refl
