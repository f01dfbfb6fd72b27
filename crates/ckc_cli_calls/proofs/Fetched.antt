-- What a store gives under a name.
use Rattle.std.proofs.Common.{◌≡◌, ℕ, zero, suc, ◌<◌, List, [], ◌∷◌, length, Option, None, Some, Result, Ok, Err, IsTrue, IsErrOf, refl, ap, subst, arith}
use Rattle.std.specs.FinMap as fin
use Rattle.ckc_outside.specs.declared.traits.Fetched.{Fetched}
use Rattle.ckc_outside.specs.declared.traits.Fetched.TheVariants.{Whole, Longer}
use Rattle.ckc_outside.specs.declared.traits.StoreError.{StoreError}
use Rattle.ckc_outside.specs.declared.traits.StoreError.TheVariants.{Failed, Memory}
use Rattle.ckc_outside.specs.Outside.{Files, Stored, GivesFile, IsWithin}
use Rattle.ckc_cli_calls.specs.Files.{Holds, Gives}

-- there is a list of each length
list_of : (n : ℕ) → (l : List ℕ) × (length l ≡ n)
list_of zero = ([], refl)
list_of (suc n) = let p = list_of n in (0 ∷ p.0, ap suc p.1)

-- a file that is longer than a limit
longer_file : (files : Option Files) (name : List ℕ) (limit : ℕ) → ((here : Files) → files ≡ Some here → GivesFile (fin.get here name) limit (Ok Longer)) → (text : List ℕ) × Holds files name text × (limit < length text)
longer_file None name limit told = let p = list_of (suc limit) in (p.0, (λ here e. absurd cc), omega (arith, p.1))
longer_file (Some here) name limit told =
    let p = told here refl in
    (p.0, (λ other e. let same : here ≡ other = cc in subst (λ (h : Files). fin.get h name ≡ Some p.0) same p.1), p.2)

found : (f : Fetched) (name : List ℕ) (limit : ℕ) (before : Stored) → IsWithin limit (Ok f)
    → ((here : Files) → before.files ≡ Some here → GivesFile (fin.get here name) limit (Ok f)) → Gives name limit before (Ok f)
found (Whole bytes) name limit before within told = ((λ here e. (told here e).0), within)
found Longer name limit before within told = longer_file before.files name limit told

pub given : (r : Result Fetched StoreError) (name : List ℕ) (limit : ℕ) (before : Stored) → IsWithin limit r
    → ((here : Files) → before.files ≡ Some here → GivesFile (fin.get here name) limit r)
    → ((here : Files) → IsTrue before.steady → before.files ≡ Some here → IsErrOf r Failed → fin.get here name ≡ None)
    → Gives name limit before r
given (Ok f) name limit before within told lacks = found f name limit before within told
given (Err Failed) name limit before within told lacks = λ here t e. lacks here t e refl
given (Err Memory) name limit before within told lacks = tt
