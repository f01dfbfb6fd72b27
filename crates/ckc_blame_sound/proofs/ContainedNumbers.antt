-- Products with the size of an element.
use Rattle.std.proofs.Common.{◌≡◌, ℕ, zero, suc, ◌+◌, ◌*◌, ◌<◌, ◌≤◌, refl, ◌∙◌, ap, ℤ, ◌+ℤ◌, ◌≤ℤ◌, arith}
use Rattle.std.specs.Prelude.{pos, negsuc, ◌*ℤ◌, ◌-ℤ◌}
use Rattle.std.proofs.lemmas.Int.{ints}
use Rattle.std.proofs.Math.Nat.{suc-mul}
use Rattle.std.proofs.Math.IntN.{zero-*ℤ, suc_ℤ-*ℤ, pos-*ℤ-pos}

-- one element more
one_more : (s : ℕ) (a : ℤ) → pos (suc s) *ℤ a ≡ pos s *ℤ a +ℤ a
one_more s a = suc_ℤ-*ℤ (pos s) a

pub spread : (s : ℕ) (a b : ℤ) → pos s *ℤ (a +ℤ b) ≡ pos s *ℤ a +ℤ pos s *ℤ b
spread zero a b =
    let x = zero-*ℤ (a +ℤ b) in
    let y = zero-*ℤ a in
    let z = zero-*ℤ b in
    omega (arith, ints)
spread (suc s) a b =
    let x = one_more s (a +ℤ b) in
    let y = one_more s a in
    let z = one_more s b in
    let h = spread s a b in
    omega (arith, ints)

pub grows : (s : ℕ) (a b : ℤ) → a ≤ℤ b → (pos s *ℤ a) ≤ℤ (pos s *ℤ b)
grows zero a b h =
    let y = zero-*ℤ a in
    let z = zero-*ℤ b in
    omega (arith, ints)
grows (suc s) a b h =
    let y = one_more s a in
    let z = one_more s b in
    let g = grows s a b h in
    omega (arith, ints)

pub less_back : (s : ℕ) (a b : ℤ) → 0 < s → (pos s *ℤ a) ≤ℤ (pos s *ℤ b) → a ≤ℤ b
less_back zero a b p h = absurd (omega arith)
less_back (suc s) a b p h = by (b -ℤ a) refl
  where
    by : (d : ℤ) → b -ℤ a ≡ d → a ≤ℤ b
    by (pos m) e = omega (arith, ints)
    by (negsuc m) e =
        let y = one_more s a in
        let z = one_more s b in
        let l : b ≤ℤ a = omega (arith, ints) in
        let g = grows s b a l in
        absurd (omega (arith, ints))

-- how far a number is above another one
pub above : (a b : ℤ) → a ≤ℤ b → (m : ℕ) × (b ≡ a +ℤ pos m)
above a b h = by (b -ℤ a) refl
  where
    by : (d : ℤ) → b -ℤ a ≡ d → (m : ℕ) × (b ≡ a +ℤ pos m)
    by (pos m) e = (m, omega (arith, ints))
    by (negsuc m) e = absurd (omega (arith, ints))

-- so many elements behind an address
pub so_far : (s low : ℕ) (base x y : ℤ) → pos low ≡ base +ℤ (pos s *ℤ x) → x ≤ℤ y → (m : ℕ) × (base +ℤ (pos s *ℤ y) ≡ pos (low + s * m))
so_far s low base x y e h =
    let a = above x y h in
    let up = ap (λ z. pos s *ℤ z) a.1 ∙ spread s x (pos a.0) in
    let p = pos-*ℤ-pos s a.0 in
    (a.0, omega (arith, ints))

-- elements of some size take as many bytes as they are, at least
pub as_many : (s m : ℕ) → 0 < s → m ≤ s * m
as_many zero m p = absurd (omega arith)
as_many (suc s) m p = let e = suc-mul s m in omega arith

pub far : (s low high : ℕ) (base x y : ℤ) → 0 < s → pos low ≡ base +ℤ (pos s *ℤ x) → pos high ≡ base +ℤ (pos s *ℤ y) → low ≤ high
    → (x ≤ℤ y) × (y ≤ℤ (x +ℤ (pos high -ℤ pos low)))
far s low high base x y p e d h =
    let l : (pos s *ℤ x) ≤ℤ (pos s *ℤ y) = omega (arith, ints) in
    let k = less_back s x y p l in
    let a = above x y k in
    let up = ap (λ z. pos s *ℤ z) a.1 ∙ spread s x (pos a.0) in
    let q = pos-*ℤ-pos s a.0 in
    let m = as_many s a.0 p in
    let n = a.1 in
    (k, omega (arith, ints))
