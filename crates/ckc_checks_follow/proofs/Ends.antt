-- The ends of limits, computed in words, are the exact ones if these are words.
use Rattle.std.proofs.Common.{◌≡◌, ℕ, suc, ◌+◌, ◌-◌, ◌*◌, ◌/◌, ◌%◌, ◌^◌, ◌≤◌, ◌<◌, List, refl, sym, ◌∙◌, ap, arith}
use Rattle.std.specs.Prelude.{ℤ, pos, negsuc, neg_ℤ, ◌+ℤ◌, ◌*ℤ◌, nat_lt, Bool, true, false, slice_index, Option, Some, None}
use Rattle.std.proofs.lemmas.Int.{ints}
use Rattle.std.proofs.lemmas.Bool.Decides.{nat_tests}
use Rattle.std.proofs.Math.IntN.{pos-*ℤ-pos, pos-*ℤ-negsuc}
use Rattle.ckc_base.specs.Memory.{Memory}
use Rattle.ckc_base.specs.Words.{signed, word_of, applied}
use Rattle.ckc_base.specs.declared.arithmetic.BinOp.TheVariants as binary
use Rattle.ckc_base.specs.Activations.{Values}
use Rattle.ckc_source.specs.declared.expr.Base.{Base}
use Rattle.ckc_source.specs.declared.expr.Base.TheVariants as bases
use Rattle.ckc_source.specs.declared.expr.End.{End}
use Rattle.ckc_source.specs.declared.expr.Integer.{Integer}
use Rattle.ckc_source.specs.declared.expr.Integer.TheVariants as integer
use Rattle.ckc_source.specs.declared.expr.Variable.{Variable}
use Rattle.ckc_source.specs.Words.{exact}
use Rattle.ckc_source.specs.Eval.{amount, base_address, end_address}
use Rattle.ckc_core.specs.Code as core
use Rattle.ckc_core.specs.Meaning.{value_of}
use Rattle.ckc_checks_operands.specs.Compilable.{IsSmall, IsBase, IsVariable, IsEnd}
use Rattle.ckc_checks_operands.specs.code.Pointers.{base_at, amount_at, end_at}
use Rattle.ckc_checks_follow.proofs.Exact.{low_signed, high_signed}
use Rattle.ckc_checks_follow.proofs.Values.{Agree, at_offset_value, shifted_value}

-- an integer and its word, which are the same modulo 2 ^ 32: the integer is so much less than a natural number
abbrev pub IsWord : ℤ → (less k : ℕ) → Type 0
IsWord z less k = (t : ℕ) × (z +ℤ pos less ≡ pos t) × (t % 2 ^ 32 ≡ k)

form_word : (form : Integer) (w : ℕ) → w < 2 ^ 32 → IsWord (exact form w) 4294967296 w
form_word integer.Int w h = by (nat_lt w (2 ^ 31)) refl
  where
    by : (low : Bool) → nat_lt w (2 ^ 31) ≡ low → IsWord (signed w) 4294967296 w
    by true e =
        let less : w < 2 ^ 31 = grind (arith, nat_tests) in
        (w + 4294967296, ap (λ z. z +ℤ pos 4294967296) (low_signed w less), omega arith)
    by false e =
        let more : 2 ^ 31 ≤ w = grind (arith, nat_tests) in
        let sum : negsuc (4294967295 - w) +ℤ pos 4294967296 ≡ pos w = grind (arith, ints) in
        (w, ap (λ z. z +ℤ pos 4294967296) (high_signed w more h) ∙ sum, omega arith)
form_word integer.Unsigned w h = (w + 4294967296, refl, omega arith)
form_word integer.Char w h = (w + 4294967296, refl, omega arith)

add_word : (add : ℤ) → IsSmall add → IsWord add 4294967296 (word_of add)
add_word (pos m) h =
    let less : m < 2 ^ 31 = grind (arith, ints) in
    (m + 4294967296, refl, omega (arith, ints))
add_word (negsuc m) h =
    let less : m < 2 ^ 31 = grind (arith, ints) in
    let sum : negsuc m +ℤ pos 4294967296 ≡ pos (4294967295 - m) = grind (arith, ints) in
    (4294967295 - m, sum, omega (arith, ints))

pub small_word : (add : ℤ) → IsSmall add → word_of add < 2 ^ 32
small_word add h = let w = add_word add h in omega (arith, w.2)

add_more : (z : ℤ) (t : ℕ) → z +ℤ pos 4294967296 ≡ pos t → z +ℤ pos 8589934592 ≡ pos (t + 4294967296)
add_more z t e = omega (arith, ints)

add_both : (z y : ℤ) (t u : ℕ) → z +ℤ pos 4294967296 ≡ pos t → y +ℤ pos 4294967296 ≡ pos u → z +ℤ y +ℤ pos 8589934592 ≡ pos (t + u)
add_both z y t u e f = omega (arith, ints)

pub number_word : (add : ℤ) → IsSmall add → IsWord add 8589934592 (word_of add)
number_word add fits = let a = add_word add fits in (a.0 + 4294967296, add_more add a.0 a.1, omega (arith, a.2))

pub exact_word : (form : Integer) (w : ℕ) → w < 2 ^ 32 → IsWord (exact form w) 8589934592 w
exact_word form w h = let f = form_word form w h in (f.0 + 4294967296, add_more (exact form w) f.0 f.1, omega (arith, f.2))

pub member_word : (form : Integer) (w : ℕ) (add : ℤ) → w < 2 ^ 32 → IsSmall add → IsWord (exact form w +ℤ add) 8589934592 (applied binary.Add w (word_of add))
member_word form w add h fits =
    let f = form_word form w h in
    let a = add_word add fits in
    (f.0 + a.0, add_both (exact form w) add f.0 a.0 f.1 a.1, omega (arith, f.2, a.2))

-- ---- products

over : (size k d : ℕ) → size * (k + 4294967296 * d) ≡ size * k + 4294967296 * (size * d)
over size k d = grind arith

divided : (t : ℕ) → t ≡ t % 4294967296 + 4294967296 * (t / 4294967296)
divided t = omega arith

times : (size a b : ℕ) → size * (a + b) ≡ size * a + size * b
times size a b = grind arith

-- the word of an end is the end, if that is a word
pub end_word : (size p k e : ℕ) (z : ℤ) → IsWord z 8589934592 k → pos p +ℤ (pos size *ℤ z) ≡ pos e → e < 2 ^ 32 → (p + (size * k) % 2 ^ 32) % 2 ^ 32 ≡ e
end_word size p k e (pos m) w h less =
    let t = w.0 in
    let sum : m + 8589934592 ≡ t = let same : pos (m + 8589934592) ≡ pos t = w.1 in cc in
    let k_is : t % 4294967296 ≡ k = w.2 in
    let whole : size * t ≡ size * (t % 4294967296) + 4294967296 * (size * (t / 4294967296)) =
    ap (λ n. size * n) (divided t) ∙ over size (t % 4294967296) (t / 4294967296) in
    let parts : size * t ≡ size * m + size * 8589934592 = ap (λ n. size * n) (sym sum) ∙ times size m 8589934592 in
    let ends : pos (p + size * m) ≡ pos e = sym (ap (λ z. pos p +ℤ z) (pos-*ℤ-pos size m)) ∙ h in
    let ended : p + size * m ≡ e = cc in
    let same : size * k ≡ size * (t % 4294967296) = ap (λ n. size * n) (sym k_is) in
    omega (arith, whole, parts, ended, same)
end_word size p k e (negsuc m) w h less =
    let t = w.0 in
    let sum : t + suc m ≡ 8589934592 = omega (arith, ints, w.1) in
    let k_is : t % 4294967296 ≡ k = w.2 in
    let whole : size * t ≡ size * (t % 4294967296) + 4294967296 * (size * (t / 4294967296)) =
    ap (λ n. size * n) (divided t) ∙ over size (t % 4294967296) (t / 4294967296) in
    let parts : size * t + size * suc m ≡ size * 8589934592 = sym (times size t (suc m)) ∙ ap (λ n. size * n) sum in
    let ends : pos p +ℤ neg_ℤ (pos (size * suc m)) ≡ pos e = sym (ap (λ z. pos p +ℤ z) (pos-*ℤ-negsuc size m)) ∙ h in
    let ended : p ≡ e + size * suc m = taken p (size * suc m) e ends in
    let same : size * k ≡ size * (t % 4294967296) = ap (λ n. size * n) (sym k_is) in
    omega (arith, whole, parts, ended, same)
  where
    taken : (p q e : ℕ) → pos p +ℤ neg_ℤ (pos q) ≡ pos e → p ≡ e + q
    taken p q e h = omega (arith, ints)

-- ---- values

module _ (n : ℕ) (locals : List ℕ) (l : Values) (memory : Memory) (agree : Agree n locals l) (small : (x : ℕ) → x < n → slice_index locals x < 2 ^ 32) where
  base_value : (x : ℕ) (b : Base) → x < n → IsBase n b
      → (value_of l memory (base_at x b) ≡ Some (base_address locals (slice_index locals x) b)) × (base_address locals (slice_index locals x) b < 2 ^ 32)
  base_value x bases.Own h k = (agree x h, small x h)
  base_value x (bases.Local y) h k = (agree y k, small y k)
  base_value x (bases.Fixed a) h k = (refl, k)

  amount_value : (variable : Option Variable) (add : ℤ) → IsVariable n variable → IsSmall add
      → (k : ℕ) × (value_of l memory (amount_at variable add) ≡ Some k) × (k < 2 ^ 32) × IsWord (amount locals variable add) 8589934592 k
  amount_value None add h fits =
      let a = add_word add fits in
      (word_of add, refl, small_word add fits, (a.0 + 4294967296, add_more add a.0 a.1, omega (arith, a.2)))
  amount_value (Some v) add h fits =
      let w = slice_index locals v.local in
      let a = add_word add fits in
      let f = form_word v.form w (small v.local h) in (
        applied binary.Add w (word_of add),
        at_offset_value l memory (word_of add) (core.Local v.local) w (agree v.local h) (small v.local h),
        omega arith,
        (f.0 + a.0, add_both (exact v.form w) add f.0 a.0 f.1 a.1, omega (arith, f.2, a.2)),
      )

  -- an end of the limits of the local x
  pub end_value : (x size : ℕ) (e : End) (a : ℕ) → x < n → IsEnd n e → end_address locals size (slice_index locals x) e ≡ pos a → a < 2 ^ 32
      → value_of l memory (end_at x size e) ≡ Some a
  end_value x size e a h is ends less =
      let b = base_value x e.base h is.0 in
      let m = amount_value e.variable e.add is.1 is.2 in
      let p = base_address locals (slice_index locals x) e.base in
      shifted_value l memory false size (base_at x e.base) (amount_at e.variable e.add) p m.0 b.0 m.1 b.1 m.2
      ∙ ap Some (end_word size p m.0 a (amount locals e.variable e.add) m.3 ends less)

  -- such an end has a word in any case
  pub any_end : (x size : ℕ) (e : End) → x < n → IsEnd n e → (k : ℕ) × (value_of l memory (end_at x size e) ≡ Some k) × (k < 2 ^ 32)
  any_end x size e h is =
      let b = base_value x e.base h is.0 in
      let m = amount_value e.variable e.add is.1 is.2 in
      let p = base_address locals (slice_index locals x) e.base in (
        applied binary.Add p (applied binary.Mul size m.0),
        shifted_value l memory false size (base_at x e.base) (amount_at e.variable e.add) p m.0 b.0 m.1 b.1 m.2,
        omega arith,
      )
