-- Digits and the numbers that they stand for.
use Rattle.std.specs.Prelude.{ℕ, ◌+◌, ◌-◌, ◌*◌, Bool, nat_lt, if◌then◌else◌, List, fold}
use Rattle.ckc_syntax.specs.Bytes.{is_between, is_digit}

-- the value of a hexadecimal digit; every other byte has one that no radix allows
abbrev pub digit_value : ℕ → ℕ
digit_value b =
    if is_digit b then b - 48
    else (if is_between 97 102 b then b - 87
    else (if is_between 65 70 b then b - 55
    else 16))

-- whether a byte is a digit of the radix
abbrev pub is_digit_in : ℕ → ℕ → Bool
is_digit_in radix b = nat_lt (digit_value b) radix

-- the number that the digits stand for
abbrev pub value_in : ℕ → List ℕ → ℕ
value_in radix digits = fold (λ n b. n * radix + digit_value b) 0 digits
