-- Each error of the names has one of their codes: errors of parts.
use Rattle.std.proofs.Common.{arith, ℕ, if◌then◌else◌, Bool, true, false}
use Rattle.std.specs.Prelude.{Ok, Option}
use Rattle.ckc_base.proofs.Codes
use Rattle.ckc_base.specs.declared.places.Pos.{Pos}
use Rattle.ckc_base.specs.Outcomes.{Outcome, there_or, refused}
use Rattle.ckc_resolve.specs.Codes.{IsCode, undeclared, declared_twice, no_main, undefined}
use Rattle.ckc_resolve.specs.Declarations.{unless_taken}

abbrev pub HasCode : {A : Type 0} → Outcome A → Type 0
HasCode o = Codes.HasCode IsCode o

first_code : IsCode undeclared
first_code = (omega arith, omega arith)

second_code : IsCode declared_twice
second_code = (omega arith, omega arith)

pub third_code : IsCode no_main
third_code = (omega arith, omega arith)

pub last_code : IsCode undefined
last_code = (omega arith, omega arith)

pub there : {A : Type 0} (o : Option A) (pos : Pos) → HasCode (there_or undeclared pos o)
there o pos = Codes.there IsCode undeclared pos o first_code

pub taken : {A : Type 0} (b : Bool) (pos : Pos) (a : A) → HasCode (unless_taken b pos a)
taken true pos a = second_code
taken false pos a = tt

-- what is made if a test passes
pub tested : {A : Type 0} {code : ℕ} (b : Bool) (pos : Pos) (a : A) → IsCode code → HasCode (if b then Ok a else refused code pos)
tested true pos a h = tt
tested false pos a h = h
