-- What putting a line leaves.
use Rattle.std.proofs.Common.{◌≡◌, inl, inr, ℕ, true, false, List, [], ◌∷◌, length, Option, Some, Result, Ok, Err, ◌==◌, arith}
use Rattle.ckc_outside.specs.declared.traits.Failed.{Failed}
use Rattle.ckc_outside.specs.Outside.{Puts, Rose, one_more, faults_after}
use Rattle.ckc_cli_calls.specs.Lines.{Reported, MayFail}

-- a count that is one more rose
pub rose_by_one : (n m : ℕ) → m ≡ one_more n → Rose n m
rose_by_one n m e = grind (arith, e)

reported_by : (c : ℕ) (line : List ℕ) (r : Result (Unit {0}) Failed) (old new : Option (List ℕ)) (n m : ℕ) → ((bytes : List ℕ) → old ≡ Some bytes → Puts bytes (c ∷ line) r new) → m ≡ faults_after r n
    → Reported (c ∷ line) old new (Rose n m)
reported_by c line (Ok done) old new n m told failed = λ before e. inl (told before e)
reported_by c line (Err e) old new n m told failed = λ before h. let p = told before h in inr (rose_by_one n m failed, p.0, p.1)

pub reported : (line : List ℕ) (r : Result (Unit {0}) Failed) (old new : Option (List ℕ)) (n m : ℕ) → (length line == 0) ≡ false → ((bytes : List ℕ) → old ≡ Some bytes → Puts bytes line r new) → m ≡ faults_after r n
    → Reported line old new (Rose n m)
reported [] r old new n m some told failed = absurd (let q : true ≡ false = some in cc)
reported (c ∷ line) r old new n m some told failed = reported_by c line r old new n m told failed

may_fail_by : (c : ℕ) (line : List ℕ) (r : Result (Unit {0}) Failed) (n m : ℕ) → m ≡ faults_after r n → MayFail (c ∷ line) n m
may_fail_by c line (Ok done) n m failed = inl failed
may_fail_by c line (Err e) n m failed = inr failed

pub may_fail : (line : List ℕ) (r : Result (Unit {0}) Failed) (n m : ℕ) → (length line == 0) ≡ false → m ≡ faults_after r n → MayFail line n m
may_fail [] r n m some failed = absurd (let q : true ≡ false = some in cc)
may_fail (c ∷ line) r n m some failed = may_fail_by c line r n m failed
