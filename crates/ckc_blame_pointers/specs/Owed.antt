-- What is said of the evaluations of either mode. In checked code none is stuck; in unchecked code one may be, and then
-- nothing is said of it.
use Rattle.std.specs.Prelude.{◌≢◌, Result, Ok, Err}
use Rattle.ckc_base.specs.declared.arithmetic.Mode.{Mode}
use Rattle.ckc_base.specs.declared.arithmetic.Mode.TheVariants.{Checked, Unchecked}
use Rattle.ckc_source.specs.declared.outcome.Halt.{Halt}
use Rattle.ckc_source.specs.declared.outcome.Halt.TheVariants as halt

-- what is said of a stuck evaluation: in checked code, that there is none
abbrev pub Owed : Mode → Type 0
Owed Checked = ⊥
Owed Unchecked = Unit {0}

-- An evaluation in code of a mode gives something of which this holds, or stops at a named check, or is stuck as it may
-- be there.
abbrev pub Comes : {A : Type 0} → Mode → (A → Type 0) → Result A Halt → Type 0
Comes m P (Ok a) = P a
Comes m P (Err (halt.Stopped why at)) = Unit {0}
Comes m P (Err halt.Stuck) = Owed m

-- An evaluation is not stuck, if it is one of unchecked code.
abbrev pub Runs : {A : Type 0} → Mode → Result A Halt → Type 0
Runs Checked r = Unit {0}
Runs Unchecked r = r ≢ Err halt.Stuck

-- If an evaluation gives something, this holds of it.
abbrev pub IfGives : {A : Type 0} → (A → Type 0) → Result A Halt → Type 0
IfGives P (Ok a) = P a
IfGives P (Err h) = Unit {0}
