-- The numbers and names of the checks.
use Rattle.std.specs.Prelude.{ℕ, ◌==◌, if◌then◌else◌, List, codes, Option, Some, None}
use Rattle.ckc_base.specs.declared.runtime_checks.Check.{Check}
use Rattle.ckc_base.specs.declared.runtime_checks.Check.TheVariants.{Null, Bounds, Terminator, Arith, Divide, Cast, Dynamic, Depth}

-- the number of each check
abbrev pub number_of : Check → ℕ
number_of Null = 1
number_of Bounds = 2
number_of Terminator = 3
number_of Arith = 4
number_of Divide = 5
number_of Cast = 6
number_of Dynamic = 7
number_of Depth = 8

-- the name of each check, in ASCII
abbrev pub name_of : Check → List ℕ
name_of Null = codes "null"
name_of Bounds = codes "bounds"
name_of Terminator = codes "terminator"
name_of Arith = codes "arith"
name_of Divide = codes "divide"
name_of Cast = codes "cast"
name_of Dynamic = codes "dynamic"
name_of Depth = codes "depth"

-- the check that has the number
abbrev pub check_with : ℕ → Option Check
check_with n =
    if n == 1 then Some Null
    else if n == 2 then Some Bounds
    else if n == 3 then Some Terminator
    else if n == 4 then Some Arith
    else if n == 5 then Some Divide
    else if n == 6 then Some Cast
    else if n == 7 then Some Dynamic
    else if n == 8 then Some Depth
    else None
