-- No two operations, and no two checks, have the same number.
use Rattle.std.proofs.Common.{◌≡◌, ℕ, ◌==◌, if◌then◌else◌, true, false, Some, refl, sym, ap, ◌∙◌}
use Rattle.ckc_base.specs.declared.arithmetic.BinOp.TheVariants.{Add, Sub, Mul, DivS, DivU, RemS, RemU, And, Or, Xor, Shl, ShrS, ShrU, LtS, LtU, Eq, Ne}
use Rattle.ckc_base.specs.declared.runtime_checks.Check.{Check}
use Rattle.ckc_base.specs.declared.runtime_checks.Check.TheVariants.{Null, Bounds, Terminator, Arith, Divide, Cast, Dynamic, Depth}
use Rattle.ckc_base.specs.Checks.{number_of, check_with}
use Rattle.ckc_passes_redundant.specs.declared.operations.Operation.{Operation}
use Rattle.ckc_passes_redundant.specs.declared.operations.Operation.TheVariants.{Whole, Half}
use Rattle.ckc_passes_redundant.specs.code.Operations.{operation_number}

-- the operation that has the number
operation_with : ℕ → Operation
operation_with n =
    if n == 0 then Whole Add
    else if n == 1 then Whole Sub
    else if n == 2 then Whole Mul
    else if n == 3 then Whole DivS
    else if n == 4 then Whole DivU
    else if n == 5 then Whole RemS
    else if n == 6 then Whole RemU
    else if n == 7 then Whole And
    else if n == 8 then Whole Or
    else if n == 9 then Whole Xor
    else if n == 10 then Whole Shl
    else if n == 11 then Whole ShrS
    else if n == 12 then Whole ShrU
    else if n == 13 then Whole LtS
    else if n == 14 then Whole LtU
    else if n == 15 then Whole Eq
    else if n == 16 then Whole Ne
    else if n == 17 then Half false
    else Half true

back : (operation : Operation) → operation_with (operation_number operation) ≡ operation
unfolding operation_with
back (Whole Add) = refl
back (Whole Sub) = refl
back (Whole Mul) = refl
back (Whole DivS) = refl
back (Whole DivU) = refl
back (Whole RemS) = refl
back (Whole RemU) = refl
back (Whole And) = refl
back (Whole Or) = refl
back (Whole Xor) = refl
back (Whole Shl) = refl
back (Whole ShrS) = refl
back (Whole ShrU) = refl
back (Whole LtS) = refl
back (Whole LtU) = refl
back (Whole Eq) = refl
back (Whole Ne) = refl
back (Half false) = refl
back (Half true) = refl

pub same_operation : (a b : Operation) → operation_number a ≡ operation_number b → a ≡ b
same_operation a b e = sym (back a) ∙ ap operation_with e ∙ back b

check_back : (check : Check) → check_with (number_of check) ≡ Some check
check_back Null = refl
check_back Bounds = refl
check_back Terminator = refl
check_back Arith = refl
check_back Divide = refl
check_back Cast = refl
check_back Dynamic = refl
check_back Depth = refl

pub same_check : (a b : Check) → number_of a ≡ number_of b → a ≡ b
same_check a b e = let s : Some a ≡ Some b = sym (check_back a) ∙ ap check_with e ∙ check_back b in cc
