-- What the tests of conditions come to.
use Rattle.std.proofs.Common.{◌≡◌, ℕ, ◌+◌, ◌≤◌, ◌==◌, not, if◌then◌else◌, Bool, true, false, Some, refl, sym, ◌∙◌, ap, arith}
use Rattle.std.proofs.lemmas.Bool.Decides.{nat_tests}
use Rattle.ckc_base.specs.declared.arithmetic.BinOp.{BinOp}
use Rattle.ckc_base.specs.declared.arithmetic.BinOp.TheVariants as binary
use Rattle.ckc_base.specs.Words.{applied, flag}
use Rattle.ckc_base.specs.Memory.{Memory}
use Rattle.ckc_base.specs.Activations.{Values}
use Rattle.ckc_core.specs.Code.{Expr, Const, Local, Load, Bin, High}
use Rattle.ckc_core.specs.Limits.{depth}
use Rattle.ckc_core.specs.Meaning.{value_of, nodes}
use Rattle.ckc_core.specs.Sizes.{expr_size}
use Rattle.ckc_core.specs.WellFormed.{IsExprOver}
use Rattle.ckc_tac.specs.declared.code.Comparison.{Comparison}
use Rattle.ckc_tac.specs.declared.code.Comparison.TheVariants.{LtS, LtU, Eq, Ne}
use Rattle.ckc_tac.specs.declared.code.Operand.TheVariants.{Number}
use Rattle.ckc_tac.specs.Operations.{operation_of}
use Rattle.ckc_tac.specs.Sizes.{operand_size}
use Rattle.ckc_lower.specs.code.Built.{Test, test, is_zero, test_of_bin, test_of, checked_test}
use Rattle.ckc_lower.proofs.Values.{both_some, some_same, unlike}

-- what holds of the test of an operation in each case
by_cases : (P : Test → Type 0) (o : BinOp) (p q : Expr) (zero : Bool) (left : Bool → Test) (turned : Bool)
    → ((c : Comparison) → o ≡ operation_of c → P (test c p q turned)) → (o ≡ binary.Eq → zero ≡ true → P (left (not turned)))
    → (o ≡ binary.Ne → zero ≡ true → P (left turned)) → P (test Ne (Bin o p q) (Const 0) turned) → P (test_of_bin o p q zero left turned)
by_cases P binary.LtS p q zero left turned compares equal unequal other = compares LtS refl
by_cases P binary.LtU p q zero left turned compares equal unequal other = compares LtU refl
by_cases P binary.Eq p q true left turned compares equal unequal other = equal refl refl
by_cases P binary.Eq p q false left turned compares equal unequal other = compares Eq refl
by_cases P binary.Ne p q true left turned compares equal unequal other = unequal refl refl
by_cases P binary.Ne p q false left turned compares equal unequal other = compares Ne refl
by_cases P binary.Add p q zero left turned compares equal unequal other = other
by_cases P binary.Sub p q zero left turned compares equal unequal other = other
by_cases P binary.Mul p q zero left turned compares equal unequal other = other
by_cases P binary.DivS p q zero left turned compares equal unequal other = other
by_cases P binary.DivU p q zero left turned compares equal unequal other = other
by_cases P binary.RemS p q zero left turned compares equal unequal other = other
by_cases P binary.RemU p q zero left turned compares equal unequal other = other
by_cases P binary.And p q zero left turned compares equal unequal other = other
by_cases P binary.Or p q zero left turned compares equal unequal other = other
by_cases P binary.Xor p q zero left turned compares equal unequal other = other
by_cases P binary.Shl p q zero left turned compares equal unequal other = other
by_cases P binary.ShrS p q zero left turned compares equal unequal other = other
by_cases P binary.ShrU p q zero left turned compares equal unequal other = other

-- ---- the sides of a test

-- what a side of a test adds, and what its branch reads it with
abbrev pub side_size : Expr → ℕ
side_size (Const n) = operand_size (Number n)
side_size e = expr_size e + 3

two_or_none : (b : Bool) → (if b then 0 else 2) ≤ 2
two_or_none true = omega arith
two_or_none false = omega arith

number_few : (n : ℕ) → operand_size (Number n) ≤ 2
number_few n = two_or_none (n == 0)

side_few : (e : Expr) → side_size e ≤ expr_size e + 3
side_few (Const n) = omega (arith, number_few n)
side_few (Local x) = omega arith
side_few (Load width a) = omega arith
side_few (Bin o p q) = omega arith
side_few (High s p q) = omega arith

some_depth : (e : Expr) → 1 ≤ depth e
some_depth (Const n) = omega arith
some_depth (Local x) = omega arith
some_depth (Load width a) = omega arith
some_depth (Bin o p q) = omega arith
some_depth (High s p q) = omega arith

-- the sides of the test of an expression are no more than it
pub record IsWithin (e : Expr) (s : Test) : Type 0 where
  pub nodes_few : nodes s.left + nodes s.right ≤ nodes e + 1
  pub size_few : side_size s.left + side_size s.right + 5 ≤ expr_size e + 8
  pub left_depth : depth s.left ≤ depth e
  pub right_depth : depth s.right ≤ depth e
  pub over : (locals : ℕ) → IsExprOver locals e → IsExprOver locals s.left × IsExprOver locals s.right

against_zero : (e : Expr) (turned : Bool) → IsWithin e (test Ne e (Const 0) turned)
against_zero e turned = record {
  nodes_few = omega arith;
  size_few = omega (arith, side_few e);
  left_depth = omega arith;
  right_depth = some_depth e;
  over = λ locals h. (h, omega arith);
}

of_left : (o : BinOp) (p q : Expr) (s : Test) → IsWithin p s → IsWithin (Bin o p q) s
of_left o p q s w = record {
  nodes_few = omega (arith, w.nodes_few);
  size_few = omega (arith, w.size_few);
  left_depth = omega (arith, w.left_depth);
  right_depth = omega (arith, w.right_depth);
  over = λ locals h. w.over locals h.0;
}

compared_within : (o : BinOp) (p q : Expr) (c : Comparison) (turned : Bool) → IsWithin (Bin o p q) (test c p q turned)
compared_within o p q c turned = record {
  nodes_few = omega arith;
  size_few = omega (arith, side_few p, side_few q);
  left_depth = omega arith;
  right_depth = omega arith;
  over = λ locals h. h;
}

pub within : (e : Expr) (turned : Bool) → IsWithin e (test_of e turned)
within (Const n) turned = against_zero (Const n) turned
within (Local x) turned = against_zero (Local x) turned
within (Load width a) turned = against_zero (Load width a) turned
within (High s p q) turned = against_zero (High s p q) turned
within (Bin o p q) turned =
    by_cases (IsWithin (Bin o p q)) o p q (is_zero q) (test_of p) turned
    (λ c e. compared_within o p q c turned)
    (λ e z. of_left o p q (test_of p (not turned)) (within p (not turned)))
    (λ e z. of_left o p q (test_of p turned) (within p turned))
    (against_zero (Bin o p q) turned)

-- the same of what a check compares
pub checked_within : (e : Expr) → IsWithin e (checked_test e)
checked_within (Const n) = against_zero (Const n) false
checked_within (Local x) = against_zero (Local x) false
checked_within (Load width a) = against_zero (Load width a) false
checked_within (High s p q) = against_zero (High s p q) false
checked_within (Bin o p q) =
    by_cases (IsWithin (Bin o p q)) o p q false (test Ne p (Const 0)) false (λ c e. compared_within o p q c false)
    (λ e z. unlike z) (λ e z. unlike z) (against_zero (Bin o p q) false)

-- ---- the value of a test

abbrev pub flipped : Bool → Bool → Bool
flipped false b = b
flipped true b = not b

-- Both sides have values, and the comparison holds of them if the expression is not zero, or, if the test is
-- turned, if it is zero.
pub record Decides (values : Values) (memory : Memory) (s : Test) (v : ℕ) (turned : Bool) : Type 0 where
  pub x : ℕ
  pub y : ℕ
  pub left : value_of values memory s.left ≡ Some x
  pub right : value_of values memory s.right ≡ Some y
  pub fails : flipped s.turned (applied (operation_of s.comparison) x y == 0) ≡ flipped turned (v == 0)

eq_of : (a b : ℕ) → (a == b) ≡ true → a ≡ b
eq_of a b h = grind (arith, nat_tests)

not_flag : (b : Bool) → (flag (not b) == 0) ≡ b
not_flag true = refl
not_flag false = refl

flag_not : (b : Bool) → (flag b == 0) ≡ not b
flag_not true = refl
flag_not false = refl

not_not : (b : Bool) → not (not b) ≡ b
not_not true = refl
not_not false = refl

flipped_not : (turned b : Bool) → flipped (not turned) b ≡ flipped turned (not b)
flipped_not true b = sym (not_not b)
flipped_not false b = refl

module _ (values : Values) (memory : Memory) where
  zero_value : (q : Expr) (y : ℕ) → is_zero q ≡ true → value_of values memory q ≡ Some y → y ≡ 0
  zero_value (Const n) y e h = sym (some_same n y h) ∙ eq_of n 0 e
  zero_value (Local x) y e h = unlike e
  zero_value (Load width a) y e h = unlike e
  zero_value (Bin o p q) y e h = unlike e
  zero_value (High s p q) y e h = unlike e

  unequal_zero : (e : Expr) (v : ℕ) (turned : Bool) → value_of values memory e ≡ Some v → Decides values memory (test Ne e (Const 0) turned) v turned
  unequal_zero e v turned h = record { x = v; y = 0; left = h; right = refl; fails = ap (flipped turned) (not_flag (v == 0)) }

  pub decides : (e : Expr) (turned : Bool) (v : ℕ) → value_of values memory e ≡ Some v → Decides values memory (test_of e turned) v turned
  decides (Const n) turned v h = unequal_zero (Const n) v turned h
  decides (Local x) turned v h = unequal_zero (Local x) v turned h
  decides (Load width a) turned v h = unequal_zero (Load width a) v turned h
  decides (High s p q) turned v h = unequal_zero (High s p q) v turned h
  decides (Bin o p q) turned v h =
      let both = both_some (applied o) (value_of values memory p) (value_of values memory q) v h in
      by_cases (λ s. Decides values memory s v turned) o p q (is_zero q) (test_of p) turned
      (λ c e. record {
        x = both.0;
        y = both.1;
        left = both.2;
        right = both.3;
        fails = ap (λ n. flipped turned (n == 0)) (ap (λ a. applied a both.0 both.1) (sym e) ∙ both.4);
      })
      (λ e z.
      let inner = decides p (not turned) both.0 both.2 in
      let is : v ≡ flag (both.0 == 0) = sym both.4 ∙ ap (λ a. applied a both.0 both.1) e ∙ ap (λ y. flag (both.0 == y)) (zero_value q both.1 z both.3) in
      record {
        x = inner.x;
        y = inner.y;
        left = inner.left;
        right = inner.right;
        fails = inner.fails ∙ flipped_not turned (both.0 == 0) ∙ ap (flipped turned) (sym (ap (λ n. n == 0) is ∙ flag_not (both.0 == 0)));
      })
      (λ e z.
      let inner = decides p turned both.0 both.2 in
      let is : v ≡ flag (not (both.0 == 0)) = sym both.4 ∙ ap (λ a. applied a both.0 both.1) e ∙ ap (λ y. flag (not (both.0 == y))) (zero_value q both.1 z both.3) in
      record {
        x = inner.x;
        y = inner.y;
        left = inner.left;
        right = inner.right;
        fails = inner.fails ∙ ap (flipped turned) (sym (ap (λ n. n == 0) is ∙ not_flag (both.0 == 0)));
      })
      (unequal_zero (Bin o p q) v turned h)

  -- ---- the value of a check

  -- Both sides of what a check compares have values, and the comparison holds of them if the expression is not zero.
  pub record Agrees (e : Expr) (v : ℕ) : Type 0 where
    pub x : ℕ
    pub y : ℕ
    pub left : value_of values memory (checked_test e).left ≡ Some x
    pub right : value_of values memory (checked_test e).right ≡ Some y
    pub fails : (applied (operation_of (checked_test e).comparison) x y == 0) ≡ (v == 0)

  checked_so : (e : Expr) (v : ℕ) (s : Test) → checked_test e ≡ s → s.turned ≡ false → Decides values memory s v false → Agrees e v
  checked_so e v s is straight d = record {
    x = d.x;
    y = d.y;
    left = ap (λ (r : Test). value_of values memory r.left) is ∙ d.left;
    right = ap (λ (r : Test). value_of values memory r.right) is ∙ d.right;
    fails = ap (λ (r : Test). applied (operation_of r.comparison) d.x d.y == 0) is
        ∙ ap (λ b. flipped b (applied (operation_of s.comparison) d.x d.y == 0)) (sym straight) ∙ d.fails;
  }

  pub checked_agrees : (e : Expr) (v : ℕ) → value_of values memory e ≡ Some v → Agrees e v
  checked_agrees (Const n) v h = checked_so (Const n) v (test Ne (Const n) (Const 0) false) refl refl (unequal_zero (Const n) v false h)
  checked_agrees (Local x) v h = checked_so (Local x) v (test Ne (Local x) (Const 0) false) refl refl (unequal_zero (Local x) v false h)
  checked_agrees (Load width a) v h = checked_so (Load width a) v (test Ne (Load width a) (Const 0) false) refl refl (unequal_zero (Load width a) v false h)
  checked_agrees (High s p q) v h = checked_so (High s p q) v (test Ne (High s p q) (Const 0) false) refl refl (unequal_zero (High s p q) v false h)
  checked_agrees (Bin o p q) v h =
      let both = both_some (applied o) (value_of values memory p) (value_of values memory q) v h in
      let s = checked_test (Bin o p q) in
      let d : Decides values memory s v false × (s.turned ≡ false) =
      by_cases (λ s. Decides values memory s v false × (s.turned ≡ false)) o p q false (test Ne p (Const 0)) false
      (λ c e. (
        record {
          x = both.0;
          y = both.1;
          left = both.2;
          right = both.3;
          fails = ap (λ n. n == 0) (ap (λ a. applied a both.0 both.1) (sym e) ∙ both.4);
        },
        refl,
      ))
      (λ e z. unlike z)
      (λ e z. unlike z)
      (unequal_zero (Bin o p q) v false h, refl) in
      checked_so (Bin o p q) v s refl d.1 d.0
