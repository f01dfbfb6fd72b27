-- What holds of what an evaluation gives. In unchecked code it may be stuck.
use Rattle.std.proofs.Common.{◌≡◌, refl, subst}
use Rattle.std.specs.Prelude.{Option, None, Some, Result, Ok, Err, IsOk}
use Rattle.ckc_source.specs.declared.outcome.Halt.{Halt}
use Rattle.ckc_source.specs.declared.outcome.Halt.TheVariants as halt
use Rattle.ckc_source.specs.declared.outcome.Value.{Value}
use Rattle.ckc_source.specs.Eval.{given, given_some}
use Rattle.ckc_blame_pointers.specs.Meant.{IsNotStuck}
use Rattle.ckc_blame_pointers.specs.Owed.{IfGives}

-- what it goes on to give
pub given_gives : {A : Type 0} (P : Value → Type 0) (x : Result A Halt) (f : A → Result Value Halt) → ((a : A) → x ≡ Ok a → IfGives P (f a)) → IfGives P (given x f)
given_gives P (Ok a) f next = next a refl
given_gives P (Err why) f next = tt

-- the same from what memory has
pub some_gives : {A : Type 0} (P : Value → Type 0) (o : Option A) (f : A → Result Value Halt) → ((a : A) → o ≡ Some a → IfGives P (f a)) → IfGives P (given_some o f)
some_gives P (Some a) f next = next a refl
some_gives P None f next = tt

pub gives_weaker : (P Q : Value → Type 0) (x : Result Value Halt) → IfGives P x → ((v : Value) → P v → Q v) → IfGives Q x
gives_weaker P Q (Ok v) h next = next v h
gives_weaker P Q (Err why) h next = tt

-- what an evaluation that is not stuck gives
pub gives_of : (P : Value → Type 0) (x : Result Value Halt) → IsNotStuck P x → (v : Value) → x ≡ Ok v → P v
gives_of P x h v is = subst (IsNotStuck P) is h

-- one that is not stuck comes to what it gives
pub gives_both : (P Q : Value → Type 0) (x : Result Value Halt) → IsNotStuck P x → IfGives Q x → IsNotStuck Q x
gives_both P Q (Ok v) h g = g
gives_both P Q (Err (halt.Stopped why at)) h g = tt
gives_both P Q (Err halt.Stuck) h g = h

-- one that goes on is not stuck
pub ok_comes : (Q : Value → Type 0) (x : Result Value Halt) → IsOk x → IfGives Q x → IsNotStuck Q x
ok_comes Q (Ok v) ok g = g
ok_comes Q (Err why) ok g = absurd (cc)
