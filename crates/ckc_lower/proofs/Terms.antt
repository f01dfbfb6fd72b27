-- What the terms of expressions are: no larger than these, with the same values, and with small offsets.
use Rattle.std.proofs.Common.{◌≡◌, ℕ, ◌+◌, ◌≤◌, ◌<◌, ◌==◌, if◌then◌else◌, Bool, true, false, refl, ap, ◌∙◌, arith}
use Rattle.std.specs.Prelude.{Option, Some, None, max, ◌%◌, ◌^◌, option_and_then}
use Rattle.std.proofs.lemmas.Bool.Decides.{nat_tests}
use Rattle.ckc_base.specs.declared.arithmetic.BinOp.{BinOp}
use Rattle.ckc_base.specs.declared.arithmetic.BinOp.TheVariants as binary
use Rattle.ckc_base.specs.Sizes.{const_size, copy_size, load_size, operation_size}
use Rattle.ckc_base.specs.Words.{applied}
use Rattle.ckc_base.specs.Products.{high_product}
use Rattle.ckc_base.specs.Memory.{Memory, value_at}
use Rattle.ckc_base.specs.Activations.{Values}
use Rattle.ckc_core.specs.Code.{Expr}
use Rattle.ckc_core.specs.Code as core
use Rattle.ckc_core.specs.Limits as limits
use Rattle.ckc_core.specs.Sizes as sizes
use Rattle.ckc_core.specs.WellFormed.{IsExprOver}
use Rattle.ckc_core.specs.Meaning.{value_of, both}
use Rattle.ckc_core.specs.Meaning as meaning
use Rattle.ckc_tac.specs.Operations.{at_offset}
use Rattle.ckc_tac.specs.WellFormed.{IsOffset}
use Rattle.ckc_lower.specs.code.Terms.{Term, Const, Local, Load, Bin, High, is_near, small_of, near_in, offset_of, base_of, term_of}

-- what holds of both choices
either : (P : Term → Type 0) (b : Bool) (x y : Term) → P x → P y → P (if b then x else y)
either P true x y h k = h
either P false x y h k = k

-- ---- sizes

abbrev pub depth : Term → ℕ
depth (Const n) = 1
depth (Local x) = 1
depth (Load width a n) = 1 + depth a
depth (Bin o p q) = 1 + max (depth p) (depth q)
depth (High s p q) = 1 + max (depth p) (depth q)

abbrev pub nodes : Term → ℕ
nodes (Const n) = 1
nodes (Local x) = 1
nodes (Load width a n) = 1 + nodes a
nodes (Bin o p q) = 1 + nodes p + nodes q
nodes (High s p q) = 1 + nodes p + nodes q

abbrev pub size : Term → ℕ
size (Const n) = const_size
size (Local x) = 0
size (Load width a n) = load_size + size a
size (Bin o p q) = operation_size + size p + size q
size (High s p q) = operation_size + size p + size q

abbrev pub set_size : Term → ℕ
set_size (Local x) = copy_size
set_size x = size x

pub base_depth : (x : Term) → depth (base_of x) ≤ depth x
base_depth (Const n) = omega arith
base_depth (Local y) = omega arith
base_depth (Load width a n) = omega arith
base_depth (Bin o p q) = either (λ x. depth x ≤ depth (Bin o p q)) (near_in o q == 0) (Bin o p q) p (omega arith) (omega arith)
base_depth (High s p q) = omega arith

pub base_nodes : (x : Term) → nodes (base_of x) ≤ nodes x
base_nodes (Const n) = omega arith
base_nodes (Local y) = omega arith
base_nodes (Load width a n) = omega arith
base_nodes (Bin o p q) = either (λ x. nodes x ≤ nodes (Bin o p q)) (near_in o q == 0) (Bin o p q) p (omega arith) (omega arith)
base_nodes (High s p q) = omega arith

pub base_size : (x : Term) → size (base_of x) ≤ size x
base_size (Const n) = omega arith
base_size (Local y) = omega arith
base_size (Load width a n) = omega arith
base_size (Bin o p q) = either (λ x. size x ≤ size (Bin o p q)) (near_in o q == 0) (Bin o p q) p (omega arith) (omega arith)
base_size (High s p q) = omega arith

pub term_depth : (e : Expr) → depth (term_of e) ≤ limits.depth e
term_depth (core.Const n) = omega arith
term_depth (core.Local x) = omega arith
term_depth (core.Load width a) = omega (arith, term_depth a, base_depth (term_of a))
term_depth (core.Bin o p q) = omega (arith, term_depth p, term_depth q)
term_depth (core.High s p q) = omega (arith, term_depth p, term_depth q)

pub term_nodes : (e : Expr) → nodes (term_of e) ≤ meaning.nodes e
term_nodes (core.Const n) = omega arith
term_nodes (core.Local x) = omega arith
term_nodes (core.Load width a) = omega (arith, term_nodes a, base_nodes (term_of a))
term_nodes (core.Bin o p q) = omega (arith, term_nodes p, term_nodes q)
term_nodes (core.High s p q) = omega (arith, term_nodes p, term_nodes q)

pub term_size : (e : Expr) → size (term_of e) ≤ sizes.expr_size e
term_size (core.Const n) = omega arith
term_size (core.Local x) = omega arith
term_size (core.Load width a) = omega (arith, term_size a, base_size (term_of a))
term_size (core.Bin o p q) = omega (arith, term_size p, term_size q)
term_size (core.High s p q) = omega (arith, term_size p, term_size q)

pub term_set_size : (e : Expr) → set_size (term_of e) ≤ sizes.set_size e
term_set_size (core.Const n) = omega arith
term_set_size (core.Local x) = omega arith
term_set_size (core.Load width a) = term_size (core.Load width a)
term_set_size (core.Bin o p q) = term_size (core.Bin o p q)
term_set_size (core.High s p q) = term_size (core.High s p q)

-- ---- what is named

small_number : (b : Bool) (n : ℕ) → is_near n ≡ b → IsOffset (if b then n else 0)
small_number true n e = grind (arith, nat_tests)
small_number false n e = omega arith

small_offset : (q : Term) → IsOffset (small_of q)
small_offset (Const n) = small_number (is_near n) n refl
small_offset (Local y) = omega arith
small_offset (Load width a n) = omega arith
small_offset (Bin o p q) = omega arith
small_offset (High s p q) = omega arith

near_offset : (o : BinOp) (q : Term) → IsOffset (near_in o q)
near_offset binary.Add q = small_offset q
near_offset o q = omega arith

-- the offset of an address is small
pub offset_small : (x : Term) → IsOffset (offset_of x)
offset_small (Const n) = omega arith
offset_small (Local y) = omega arith
offset_small (Load width a n) = omega arith
offset_small (Bin o p q) = near_offset o q
offset_small (High s p q) = omega arith

abbrev pub IsTermOver : ℕ → Term → Type 0
IsTermOver locals (Const n) = n < 2 ^ 32
IsTermOver locals (Local x) = x < locals
IsTermOver locals (Load width a n) = IsTermOver locals a × IsOffset n
IsTermOver locals (Bin o p q) = IsTermOver locals p × IsTermOver locals q
IsTermOver locals (High s p q) = IsTermOver locals p × IsTermOver locals q

pub base_over : (locals : ℕ) (x : Term) → IsTermOver locals x → IsTermOver locals (base_of x)
base_over locals (Const n) h = h
base_over locals (Local y) h = h
base_over locals (Load width a n) h = h
base_over locals (Bin o p q) h = either (IsTermOver locals) (near_in o q == 0) (Bin o p q) p h h.0
base_over locals (High s p q) h = h

pub term_over : (locals : ℕ) (e : Expr) → IsExprOver locals e → IsTermOver locals (term_of e)
term_over locals (core.Const n) h = h
term_over locals (core.Local x) h = h
term_over locals (core.Load width a) h = (base_over locals (term_of a) (term_over locals a h), offset_small (term_of a))
term_over locals (core.Bin o p q) h = (term_over locals p h.0, term_over locals q h.1)
term_over locals (core.High s p q) h = (term_over locals p h.0, term_over locals q h.1)

-- ---- values

abbrev pub value_in_term : Values → Memory → Term → Option ℕ
value_in_term locals memory (Const n) = Some n
value_in_term locals memory (Local x) = locals x
value_in_term locals memory (Load width a n) =
    option_and_then (λ p. value_at width memory (at_offset p n)) (value_in_term locals memory a)
value_in_term locals memory (Bin o p q) = both (applied o) (value_in_term locals memory p) (value_in_term locals memory q)
value_in_term locals memory (High s p q) = both (high_product s) (value_in_term locals memory p) (value_in_term locals memory q)

module _ (locals : Values) (memory : Memory) where
  abbrev value : Term → Option ℕ
  value = value_in_term locals memory

  -- a sum with a small number goes on from its base as the number says
  sum_goes : {X : Type 0} (f : ℕ → Option X) (b : Bool) (n : ℕ) (o : Option ℕ) → (n == 0) ≡ b → b ≡ false
      → option_and_then (λ p. f (if b then p else (p + n) % 2 ^ 32)) o ≡ option_and_then f (both (applied binary.Add) o (Some n))
  sum_goes f true n o e h = absurd cc
  sum_goes f false n (Some p) e h = refl
  sum_goes f false n None e h = refl

  none_goes : {X : Type 0} (f : ℕ → Option X) (n : ℕ) (o : Option ℕ) → (n == 0) ≡ true → option_and_then (λ p. f (at_offset p n)) o ≡ option_and_then f o
  none_goes f n o e = ap (λ b. option_and_then (λ p. f (if b then p else (p + n) % 2 ^ 32)) o) e

  number_goes : {X : Type 0} (f : ℕ → Option X) (near : Bool) (m : ℕ) (p : Term) → ((if near then m else 0) == 0) ≡ false
      → option_and_then (λ y. f (at_offset y (if near then m else 0))) (value p) ≡ option_and_then f (both (applied binary.Add) (value p) (Some m))
  number_goes f true m p e =
      ap (λ b. option_and_then (λ y. f (if b then y else (y + m) % 2 ^ 32)) (value p)) e ∙ sum_goes f false m (value p) e refl
  number_goes f false m p e = absurd cc

  right_goes : {X : Type 0} (f : ℕ → Option X) (p q : Term) → (small_of q == 0) ≡ false
      → option_and_then (λ y. f (at_offset y (small_of q))) (value p) ≡ option_and_then f (both (applied binary.Add) (value p) (value q))
  right_goes f p (Const m) e = number_goes f (is_near m) m p e
  right_goes f p (Local y) e = absurd cc
  right_goes f p (Load width a n) e = absurd cc
  right_goes f p (Bin o r s) e = absurd cc
  right_goes f p (High t r s) e = absurd cc

  near_goes : {X : Type 0} (f : ℕ → Option X) (o : BinOp) (p q : Term) → (near_in o q == 0) ≡ false
      → option_and_then (λ y. f (at_offset y (near_in o q))) (value p) ≡ option_and_then f (both (applied o) (value p) (value q))
  near_goes f binary.Add p q e = right_goes f p q e
  near_goes f o p q e = absurd cc

  bin_goes : {X : Type 0} (f : ℕ → Option X) (o : BinOp) (p q : Term) (b : Bool) → (near_in o q == 0) ≡ b
      → option_and_then (λ y. f (at_offset y (near_in o q))) (value (if b then Bin o p q else p)) ≡ option_and_then f (value (Bin o p q))
  bin_goes f o p q true e = none_goes f (near_in o q) (value (Bin o p q)) e
  bin_goes f o p q false e = near_goes f o p q e

  -- what is made of the value of an address is made of the value of its base and the offset
  pub base_goes : {X : Type 0} (f : ℕ → Option X) (x : Term)
      → option_and_then (λ y. f (at_offset y (offset_of x))) (value (base_of x)) ≡ option_and_then f (value x)
  base_goes f (Const n) = refl
  base_goes f (Local y) = refl
  base_goes f (Load width a n) = refl
  base_goes f (Bin o p q) = bin_goes f o p q (near_in o q == 0) refl
  base_goes f (High s p q) = refl

  both_same : (f : ℕ → ℕ → ℕ) (x y u v : Option ℕ) → x ≡ u → y ≡ v → both f x y ≡ both f u v
  both_same f x y u v e h = ap (λ o. both f o y) e ∙ ap (both f u) h

  -- the term of an expression has its value
  pub term_value : (e : Expr) → value (term_of e) ≡ value_of locals memory e
  term_value (core.Const n) = refl
  term_value (core.Local x) = refl
  term_value (core.Load width a) =
      base_goes (value_at width memory) (term_of a) ∙ ap (option_and_then (value_at width memory)) (term_value a)
  term_value (core.Bin o p q) = both_same (applied o) (value (term_of p)) (value (term_of q)) _ _ (term_value p) (term_value q)
  term_value (core.High s p q) = both_same (high_product s) (value (term_of p)) (value (term_of q)) _ _ (term_value p) (term_value q)

  kept_some : (o : Option ℕ) (n p : ℕ) → option_and_then (λ y. Some (at_offset y n)) o ≡ Some p → (y : ℕ) × (o ≡ Some y) × (at_offset y n ≡ p)
  kept_some (Some y) n p h = (y, refl, cc)
  kept_some None n p h = absurd cc

  itself : (o : Option ℕ) (p : ℕ) → o ≡ Some p → option_and_then Some o ≡ Some p
  itself (Some y) p e = e
  itself None p e = absurd cc

  -- the value of an address is that of its base, so many bytes further on
  pub address_goes : (a : Expr) (p : ℕ) → value_of locals memory a ≡ Some p
      → (y : ℕ) × (value (base_of (term_of a)) ≡ Some y) × (at_offset y (offset_of (term_of a)) ≡ p)
  address_goes a p h =
      kept_some (value (base_of (term_of a))) (offset_of (term_of a)) p
      (base_goes Some (term_of a) ∙ itself (value (term_of a)) p (term_value a ∙ h))
