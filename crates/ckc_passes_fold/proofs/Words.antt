-- The numbers that operations on words give are words.
use Rattle.std.proofs.Common.{◌≡◌, ℕ, ◌+◌, ◌-◌, ◌*◌, ◌/◌, ◌^◌, ◌≤◌, ◌<◌, if◌then◌else◌, Bool, true, false, List, [], ◌∷◌, length, Option, Some, None, refl, subst, sym, ◌∙◌, arith}
use Rattle.std.specs.Prelude.{All, ℤ, pos, negsuc, unsigned_abs, ◌*ℤ◌}
use Rattle.std.specs.Int.{int_shr}
use Rattle.std.proofs.lemmas.Int.{ints, unsigned_abs-mul}
use Rattle.std.proofs.Math.Nat.{mul-le-mul_left, mul-le-mul_right}
use Rattle.std.proofs.lemmas.List.Elements.{All-head, All-tail}
use Rattle.ckc_base.specs.Words.{signed, word_of, applied}
use Rattle.ckc_base.specs.Products.{high_product}
use Rattle.ckc_base.proofs.WordValues.{natural_word, applied_word}
use Rattle.ckc_tac.specs.declared.code.TacFunc.{TacFunc}
use Rattle.ckc_tac.specs.declared.code.Operand.{Operand}
use Rattle.ckc_tac.specs.declared.code.Operand.TheVariants.{Register, Number}
use Rattle.ckc_tac.specs.declared.code.TacOp.{TacOp}
use Rattle.ckc_tac.specs.declared.code.TacOp.TheVariants.{Const, Copy, Bin, High, Load, Store, Check, Call, Get, Put, Alloc}
use Rattle.ckc_tac.specs.WellFormed.{IsOpOver, IsOperandOver}
use Rattle.ckc_flow.specs.Live.{target_of}
use Rattle.ckc_passes.specs.Values.{Term, Entry, Combined, Upper, number_in, known_or, computed, term_of, given, is_target, value_after}
use Rattle.ckc_passes.proofs.Valued.{known_number}

product_below : (m n k : ℕ) → m ≤ k → n ≤ k → m * n ≤ k * k
product_below m n k h i = omega (arith, mul-le-mul_left m i, mul-le-mul_right k h)

high_of : (z : ℤ) → unsigned_abs z < 2 ^ 64 → word_of (int_shr z 32) < 2 ^ 32
high_of (pos n) h = natural_word (n / 2 ^ 32) (omega arith)
high_of (negsuc n) h = omega arith

abs_of_signed : (a : ℕ) → a < 2 ^ 32 → unsigned_abs (signed a) ≤ 2 ^ 31
abs_of_signed a h = grind (arith, ints)

high_word : (b : Bool) (x y : ℕ) → x < 2 ^ 32 → y < 2 ^ 32 → high_product b x y < 2 ^ 32
high_word true x y h k =
    high_of (signed x *ℤ signed y) (omega (
      arith,
      unsigned_abs-mul (signed x) (signed y),
      product_below (unsigned_abs (signed x)) (unsigned_abs (signed y)) (2 ^ 31) (abs_of_signed x h) (abs_of_signed y k),
    ))
high_word false x y h k = omega (arith, product_below x y (2 ^ 32 - 1) (omega arith) (omega arith))

-- ---- values of registers

-- a value that is a number is a word
abbrev pub IsWord : Term → Type 0
IsWord value = (n : ℕ) → number_in value ≡ Some n → n < 2 ^ 32

computed_word : (f : ℕ → ℕ → ℕ) → ((x y : ℕ) → x < 2 ^ 32 → y < 2 ^ 32 → f x y < 2 ^ 32) → (a b : Term) → IsWord a → IsWord b
    → (n : ℕ) → computed f (number_in a) (number_in b) ≡ Some n → n < 2 ^ 32
computed_word f word a b h k n e = by (number_in a) (number_in b) h k e
  where
    by : (o p : Option ℕ) → ((n : ℕ) → o ≡ Some n → n < 2 ^ 32) → ((n : ℕ) → p ≡ Some n → n < 2 ^ 32) → computed f o p ≡ Some n → n < 2 ^ 32
    by (Some x) (Some y) h k e = subst (λ m. m < 2 ^ 32) (let g : f x y ≡ n = cc in g) (word x y (h x cc) (k y cc))
    by (Some x) None h k e = absurd cc
    by None p h k e = absurd cc

known_word : (o : Option ℕ) (value : Term) → number_in value ≡ None → ((n : ℕ) → o ≡ Some n → n < 2 ^ 32) → IsWord (known_or o value)
known_word o value none h n e = h n (sym (known_number o value none) ∙ e)

module _ (functions : List TacFunc) (regs : ℕ) where
  operand_word : (values : ℕ → Term) → ((r : ℕ) → IsWord (values r)) → (a : Operand) → IsOperandOver regs a → IsWord (term_of values a)
  operand_word values h (Register r) over n e = h r n e
  operand_word values h (Number m) over n e = subst (λ k. k < 2 ^ 32) (let g : m ≡ n = cc in g) over

  pub given_word : (values : ℕ → Term) (place : ℕ) (op : TacOp) → ((r : ℕ) → IsWord (values r)) → IsOpOver functions regs op → IsWord (given values place op)
  given_word values place (Const t m) h over n e = subst (λ k. k < 2 ^ 32) (let g : m ≡ n = cc in g) over.1
  given_word values place (Copy t a) h over n e = h a n e
  given_word values place (Bin op t a b) h over n e =
      known_word (computed (applied op) (number_in (term_of values a)) (number_in (term_of values b))) (Combined op (term_of values a) (term_of values b)) refl
      (computed_word (applied op) (applied_word op) (term_of values a) (term_of values b) (operand_word values h a over.1) (operand_word values h b over.2)) n e
  given_word values place (High is_signed t a b) h over n e =
      known_word (computed (high_product is_signed) (number_in (term_of values a)) (number_in (term_of values b))) (Upper is_signed (term_of values a) (term_of values b)) refl
      (computed_word (high_product is_signed) (high_word is_signed) (term_of values a) (term_of values b) (operand_word values h a over.1) (operand_word values h b over.2)) n e
  given_word values place op h over n e = absurd cc

  choice_word : (b : Bool) (value other : Term) → IsWord value → IsWord other → IsWord (if b then value else other)
  choice_word true value other h k = h
  choice_word false value other h k = k

  pub words : (before : List TacOp) → All (IsOpOver functions regs) before → (r : ℕ) → IsWord (value_after before r)
  words [] over r = λ n e. absurd cc
  words (op ∷ before) over r =
      let rest = words before (All-tail (IsOpOver functions regs) op before over) in
      choice_word (is_target (target_of op) r) (given (value_after before) (length before) op) (value_after before r)
      (given_word (value_after before) (length before) op rest (All-head (IsOpOver functions regs) op before over)) (rest r)
