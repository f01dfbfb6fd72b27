-- The place of a register that has one.
use Rattle.std.proofs.Common.{◌≡◌, ℕ, zero, suc, ◌<◌, List, [], ◌∷◌, length, get_or, refl, arith}
use Rattle.std.specs.Prelude.{All}
use Rattle.std.proofs.lemmas.List.Elements.{All-head, All-tail}
use Rattle.ckc_frame.specs.declared.code.Place.{Place}
use Rattle.ckc_frame.specs.Places.{number_of, home}
use Rattle.ckc_frame.specs.WellFormed.{IsPlace}
use Rattle.ckc_emit.specs.code.CallLines.{place_at}

pub home_is : (homes : List Place) (r : ℕ) → r < length homes → home homes r ≡ number_of (place_at homes r)
unfolding home place_at
home_is [] r h = absurd (omega arith)
home_is (p ∷ ps) zero h = refl
home_is (p ∷ ps) (suc r) h = home_is ps r (omega arith)

pub place_is : (homes : List Place) (r : ℕ) → r < length homes → All IsPlace homes → IsPlace (place_at homes r)
unfolding place_at
place_is [] r h a = absurd (omega arith)
place_is (p ∷ ps) zero h a = All-head IsPlace p ps a
place_is (p ∷ ps) (suc r) h a = place_is ps r (omega arith) (All-tail IsPlace p ps a)

pub place_read : (homes : List Place) (r : ℕ) (d : Place) → r < length homes → place_at homes r ≡ get_or homes r d
unfolding place_at
place_read [] r d h = absurd (omega arith)
place_read (p ∷ ps) zero d h = refl
place_read (p ∷ ps) (suc r) d h = place_read ps r d (omega arith)
