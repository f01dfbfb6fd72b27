-- Interfaces are read one by one.
use Rattle.std.proofs.Common.{◌≡◌, List, ◌∷◌, slice_index, Result, Ok, Err, sym, ap}
use Rattle.ckc_source.specs.declared.outcome.Halt.{Halt}
use Rattle.ckc_source.specs.declared.outcome.Value.{Value}
use Rattle.ckc_source.specs.declared.program.Interface.{Interface}
use Rattle.ckc_source.specs.Eval.{Store, given, reads_limited}
use Rattle.ckc_source.specs.Steps.{reads_interfaces}

pub interfaces_next : (s : Store) (i : Interface) (is : List Interface) (v : Value)
    → Ok v ≡ reads_limited s i.limits (slice_index s.locals i.param) → reads_interfaces s (i ∷ is) ≡ reads_interfaces s is
interfaces_next s i is v e = ap (λ (x : Result Value Halt). given x (λ v. reads_interfaces s is)) (sym e)

pub interfaces_stop : (s : Store) (i : Interface) (is : List Interface) (why : Halt)
    → Err why ≡ reads_limited s i.limits (slice_index s.locals i.param) → reads_interfaces s (i ∷ is) ≡ Err why
interfaces_stop s i is why e = ap (λ (x : Result Value Halt). given x (λ v. reads_interfaces s is)) (sym e)
