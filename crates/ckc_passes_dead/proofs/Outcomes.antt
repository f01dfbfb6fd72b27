-- What an operation comes to is given by the registers that it reads.
use Rattle.std.proofs.Common.{◌≡◌, ℕ, ◌==◌, true, ◌||◌, List, [], ◌∷◌, refl, sym, ap, ◌∙◌, arith}
use Rattle.std.specs.Prelude.{option_and_then}
use Rattle.std.specs.List.{list_any}
use Rattle.std.specs.Option.{option_map}
use Rattle.std.proofs.lemmas.Bool.{or_left, or_right}
use Rattle.std.proofs.lemmas.Bool.Decides.{nat_tests}
use Rattle.ckc_base.specs.Actions.{World, Outcome, Gives, with_value, checks}
use Rattle.ckc_base.specs.Activations.{Values}
use Rattle.ckc_tac.specs.declared.code.Comparison.{Comparison}
use Rattle.ckc_tac.specs.declared.code.Operand.{Operand}
use Rattle.ckc_tac.specs.declared.code.Operand.TheVariants.{Register, Number}
use Rattle.ckc_tac.specs.declared.code.TacOp.{TacOp}
use Rattle.ckc_tac.specs.declared.code.TacOp.TheVariants.{Const, Copy, Bin, High, Load, Store, Check, Call, Get, Put, Alloc}
use Rattle.ckc_tac.specs.Operations.{outcome_of, value_in, values_in, compared}
use Rattle.ckc_flow.specs.Live.{is_register, reads}

same_test : (a r : ℕ) → a ≡ r → (a == r) ≡ true
same_test a r e = grind (arith, nat_tests)

module _ (x y : Values) where
  operand_same : (a : Operand) → ((r : ℕ) → is_register r a ≡ true → x r ≡ y r) → value_in y a ≡ value_in x a
  operand_same (Register r) h = sym (h r (same_test r r refl))
  operand_same (Number n) h = refl

  one_same : (a : Operand) (f : ℕ → Outcome) → ((r : ℕ) → is_register r a ≡ true → x r ≡ y r)
      → with_value (value_in y a) f ≡ with_value (value_in x a) f
  one_same a f h = ap (λ o. with_value o f) (operand_same a h)

  module _ (a b : Operand) (h : (r : ℕ) → (is_register r a || is_register r b) ≡ true → x r ≡ y r) where
    left_same : value_in y a ≡ value_in x a
    left_same = operand_same a (λ r e. h r (or_left (is_register r a) (is_register r b) e))

    right_same : value_in y b ≡ value_in x b
    right_same = operand_same b (λ r e. h r (or_right (is_register r a) (is_register r b) e))

    two_same : (f : ℕ → ℕ → Outcome) →
        with_value (value_in y a) (λ v. with_value (value_in y b) (f v)) ≡ with_value (value_in x a) (λ v. with_value (value_in x b) (f v))
    two_same f =
        ap (λ o. with_value o (λ v. with_value (value_in y b) (f v))) left_same
        ∙ ap (λ o. with_value (value_in x a) (λ v. with_value o (f v))) right_same

    pub compared_same : (comparison : Comparison) → compared comparison (value_in y a) (value_in y b) ≡ compared comparison (value_in x a) (value_in x b)
    compared_same comparison =
        ap (λ o. compared comparison o (value_in y b)) left_same ∙ ap (λ o. compared comparison (value_in x a) o) right_same

  pub returned_same : (a : Operand) → ((r : ℕ) → is_register r a ≡ true → x r ≡ y r) → value_in y a ≡ value_in x a
  returned_same a h = operand_same a h

  pub values_same : (rs : List ℕ) → ((r : ℕ) → list_any (λ a. a == r) rs ≡ true → x r ≡ y r) → values_in y rs ≡ values_in x rs
  values_same [] h = refl
  values_same (a ∷ rs) h =
      let rest = values_same rs (λ r e. h r (or_right (a == r) (list_any (λ q. q == r) rs) e)) in
      let here = h a (or_left (a == a) (list_any (λ q. q == a) rs) (same_test a a refl)) in
      ap (λ o. option_and_then (λ v. option_map (λ vs. v ∷ vs) (values_in y rs)) o) (sym here)
      ∙ ap (λ os. option_and_then (λ v. option_map (λ vs. v ∷ vs) os) (x a)) rest

  -- the outcome is the same if each register that is read has the same value
  pub outcome_same : (world : World) (op : TacOp) → ((r : ℕ) → reads r op ≡ true → x r ≡ y r) → outcome_of y world op ≡ outcome_of x world op
  outcome_same world (Const t n) h = refl
  outcome_same world (Copy t a) h = ap (λ o. with_value o (λ v. Gives [] t v world)) (sym (h a (same_test a a refl)))
  outcome_same world (Bin op t a b) h = two_same a b h _
  outcome_same world (High is_signed t a b) h = two_same a b h _
  outcome_same world (Load width t a n) h = one_same a _ h
  outcome_same world (Store width a n b) h = two_same a b h _
  outcome_same world (Check check at comparison a b) h = ap (λ o. with_value o (checks world check at)) (compared_same a b h comparison)
  outcome_same world (Call target callee arguments at) h = refl
  outcome_same world (Get t) h = refl
  outcome_same world (Put a) h = one_same a _ h
  outcome_same world (Alloc t a size) h = one_same a _ h
