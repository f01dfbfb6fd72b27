use Rattle.std.proofs.Common.{ℕ, List}
use Rattle.ckc_build_wellformed.specs.ckc_blame_steps.specs.Unchecked.{AreStoresBlamed}
use Rattle.ckc_typed.specs.declared.typed.Typed.{Typed}
use Rattle.ckc_build_elaborate.specs.Elaborated.{elaborated}
use Rattle.ckc_build.specs.Meanings.{judging}
use Rattle.ckc_build.proofs.Blame.{accepted, meant_by}
use Rattle.ckc_build.proofs.laws.unchecked_stores_are_to_blame.Goals as goal

pub returns : goal.returns
returns c =
    let judged : (text : List ℕ) (p : Typed) → judging.Makes text p → AreStoresBlamed (elaborated p) =
    λ text p m. c.stores_are_to_blame.ensures.blamed text p (accepted c.texts_exactly.ensures.exact text p m) in
    record { judged = judged; stores = meant_by AreStoresBlamed judged }
