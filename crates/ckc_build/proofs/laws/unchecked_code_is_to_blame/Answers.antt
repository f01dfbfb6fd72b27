use Rattle.std.proofs.Common.{ℕ, List}
use Rattle.ckc_blame.specs.Blamed.{IsBlamed, IsNeverStuck}
use Rattle.ckc_blame.specs.Checked.{WhollyChecked}
use Rattle.ckc_typed.specs.declared.typed.Typed.{Typed}
use Rattle.ckc_build_elaborate.specs.Elaborated.{elaborated}
use Rattle.ckc_build.specs.Meanings.{judging}
use Rattle.ckc_build.proofs.Blame.{accepted, blamed_by, never_by}
use Rattle.ckc_build.proofs.laws.unchecked_code_is_to_blame.Goals as goal

pub returns : goal.returns
returns c =
    let exactly = c.texts_exactly.ensures.exact in
    let law = c.accepted_texts_are_blamed.ensures in
    let judged : (text : List ℕ) (p : Typed) → judging.Makes text p → IsBlamed (elaborated p) = λ text p m. law.blamed text p (accepted exactly text p m) in
    let checked : (text : List ℕ) (p : Typed) → judging.Makes text p → WhollyChecked p → IsNeverStuck (elaborated p) = λ text p m. law.checked text p (accepted exactly text p m) in
    record { judged = judged; checked = checked; blamed = blamed_by judged checked; never_stuck = never_by judged checked }
