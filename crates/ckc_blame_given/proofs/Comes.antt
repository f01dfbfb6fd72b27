-- What an evaluation comes to, one part after another.
use Rattle.std.proofs.Common.{◌≡◌, refl, ℕ}
use Rattle.std.specs.Prelude.{Result, Ok, Err}
use Rattle.ckc_base.specs.declared.arithmetic.Mode.{Mode}
use Rattle.ckc_source.specs.declared.outcome.Halt.{Halt}
use Rattle.ckc_source.specs.declared.outcome.Halt.TheVariants as halt
use Rattle.ckc_source.specs.Eval.{given, plain}
use Rattle.ckc_blame_pointers.specs.Owed.{Comes}
use Rattle.ckc_blame_pointers.specs.Meant.{IsNotStuck}

pub comes_on : {A B : Type 0} (m : Mode) (P : A → Type 0) (Q : B → Type 0) (x : Result A Halt) (f : A → Result B Halt) → Comes m P x → ((a : A) → x ≡ Ok a → P a → Comes m Q (f a)) → Comes m Q (given x f)
comes_on m P Q (Ok a) f h next = next a refl h
comes_on m P Q (Err (halt.Stopped why at)) f h next = tt
comes_on m P Q (Err halt.Stuck) f h next = h

-- what holds of it, if something else does
pub comes_as : {A : Type 0} (m : Mode) (P Q : A → Type 0) (x : Result A Halt) → Comes m P x → ((a : A) → x ≡ Ok a → P a → Q a) → Comes m Q x
comes_as m P Q (Ok a) h next = next a refl h
comes_as m P Q (Err (halt.Stopped why at)) h next = tt
comes_as m P Q (Err halt.Stuck) h next = h

-- an evaluation that is not stuck in either mode
pub from_number : (m : Mode) (P : ℕ → Type 0) (x : Result ℕ Halt) → IsNotStuck (λ v. P v.number) (given x plain) → Comes m P x
from_number m P (Ok a) h = h
from_number m P (Err (halt.Stopped why at)) h = h
from_number m P (Err halt.Stuck) h = absurd h
