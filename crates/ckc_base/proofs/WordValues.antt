-- The values of operations are words.
use Rattle.std.proofs.Common.{ℕ, zero, suc, ◌/◌, ◌%◌, ◌^◌, ◌≤◌, ◌<◌, ◌==◌, if◌then◌else◌, Bool, true, false, arith}
use Rattle.std.specs.Prelude.{ℤ, pos, negsuc, neg_ℤ, ◌≤ℤ◌, ◌<ℤ◌, int_div, int_rem}
use Rattle.std.specs.Int.{int_shr}
use Rattle.std.proofs.lemmas.Int.{ints}
use Rattle.std.proofs.lemmas.Nat.{and_le_l, or_lt, xor_lt}
use Rattle.std.proofs.Math.Nat.{div-le_self}
use Rattle.ckc_base.specs.Words.{signed, word_of, flag, applied}
use Rattle.ckc_base.specs.declared.arithmetic.BinOp.{BinOp}
use Rattle.ckc_base.specs.declared.arithmetic.BinOp.TheVariants.{Add, Sub, Mul, DivS, DivU, RemS, RemU, And, Or, Xor, Shl, ShrS, ShrU, LtS, LtU, Eq, Ne}

flag_word : (b : Bool) → flag b < 2 ^ 32
flag_word true = omega arith
flag_word false = omega arith

if_word : (b : Bool) (x y : ℕ) → x < 2 ^ 32 → y < 2 ^ 32 → (if b then x else y) < 2 ^ 32
if_word true x y h k = h
if_word false x y h k = k

-- a signed number of 32 bits has a word; 2 ^ 31 too, the quotient of the least one by -1
pub natural_word : (n : ℕ) → n < 2 ^ 32 → word_of (pos n) < 2 ^ 32
natural_word n h = grind (arith, ints)

negative_word : (n : ℕ) → n ≤ 2 ^ 31 → word_of (neg_ℤ (pos n)) < 2 ^ 32
negative_word zero h = omega arith
negative_word (suc n) h = grind (arith, ints)

pos_below : (a : ℕ) → pos a <ℤ pos (2 ^ 31) → a < 2 ^ 31
pos_below a h = grind (arith, ints)

neg_below : (a : ℕ) → neg_ℤ (pos (2 ^ 31)) ≤ℤ negsuc a → suc a ≤ 2 ^ 31
neg_below a h = grind (arith, ints)

rest_le : (a b : ℕ) → a % b ≤ a
rest_le a zero = omega arith
rest_le a (suc b) = omega arith

quotient_of : (x y : ℤ) → neg_ℤ (pos (2 ^ 31)) ≤ℤ x → x <ℤ pos (2 ^ 31) → word_of (int_div x y) < 2 ^ 32
quotient_of (pos a) (pos b) low high = natural_word (a / b) (omega (arith, div-le_self a b, pos_below a high))
quotient_of (pos a) (negsuc b) low high = negative_word (a / suc b) (omega (arith, div-le_self a (suc b), pos_below a high))
quotient_of (negsuc a) (pos b) low high = negative_word (suc a / b) (omega (arith, div-le_self (suc a) b, neg_below a low))
quotient_of (negsuc a) (negsuc b) low high = natural_word (suc a / suc b) (omega (arith, div-le_self (suc a) (suc b), neg_below a low))

signed_low : (a : ℕ) → a < 2 ^ 32 → neg_ℤ (pos (2 ^ 31)) ≤ℤ signed a
signed_low a h = grind (arith, ints)

signed_high : (a : ℕ) → a < 2 ^ 32 → signed a <ℤ pos (2 ^ 31)
signed_high a h = grind (arith, ints)

quotient_word : (a b : ℕ) → a < 2 ^ 32 → a / b < 2 ^ 32
quotient_word a b h = omega (arith, div-le_self a b)

rest_word : (a b : ℕ) → a < 2 ^ 32 → a % b < 2 ^ 32
rest_word a b h = omega (arith, rest_le a b)

rest_of : (x y : ℤ) → neg_ℤ (pos (2 ^ 31)) ≤ℤ x → x <ℤ pos (2 ^ 31) → word_of (int_rem x y) < 2 ^ 32
rest_of (pos a) (pos b) low high = natural_word (a % b) (omega (arith, rest_le a b, pos_below a high))
rest_of (pos a) (negsuc b) low high = natural_word (a % suc b) (omega (arith, rest_le a (suc b), pos_below a high))
rest_of (negsuc a) (pos b) low high = negative_word (suc a % b) (omega (arith, rest_le (suc a) b, neg_below a low))
rest_of (negsuc a) (negsuc b) low high = negative_word (suc a % suc b) (omega (arith, rest_le (suc a) (suc b), neg_below a low))

shifted_of : (x : ℤ) (k : ℕ) → neg_ℤ (pos (2 ^ 31)) ≤ℤ x → x <ℤ pos (2 ^ 31) → word_of (int_shr x k) < 2 ^ 32
shifted_of (pos a) k low high = natural_word (a / 2 ^ k) (omega (arith, div-le_self a (2 ^ k), pos_below a high))
shifted_of (negsuc a) k low high = omega arith

pub applied_word : (op : BinOp) (x y : ℕ) → x < 2 ^ 32 → y < 2 ^ 32 → applied op x y < 2 ^ 32
applied_word Add x y h k = omega arith
applied_word Sub x y h k = omega arith
applied_word Mul x y h k = omega arith
applied_word DivS x y h k = if_word (y == 0) _ _ (omega arith) (quotient_of (signed x) (signed y) (signed_low x h) (signed_high x h))
applied_word DivU x y h k = if_word (y == 0) _ _ (omega arith) (quotient_word x y h)
applied_word RemS x y h k = if_word (y == 0) _ _ h (rest_of (signed x) (signed y) (signed_low x h) (signed_high x h))
applied_word RemU x y h k = if_word (y == 0) _ _ h (rest_word x y h)
applied_word And x y h k = omega (arith, and_le_l x y)
applied_word Or x y h k = or_lt 32 x y h k
applied_word Xor x y h k = xor_lt 32 x y h k
applied_word Shl x y h k = omega arith
applied_word ShrS x y h k = shifted_of (signed x) (y % 32) (signed_low x h) (signed_high x h)
applied_word ShrU x y h k = quotient_word x (2 ^ (y % 32)) h
applied_word LtS x y h k = flag_word _
applied_word LtU x y h k = flag_word _
applied_word Eq x y h k = flag_word _
applied_word Ne x y h k = flag_word _
