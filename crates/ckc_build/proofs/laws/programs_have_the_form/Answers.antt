use Rattle.ckc_source.specs.Code.{Program}
use Rattle.ckc_checks_operands.specs.Compilable.{IsCompilable}
use Rattle.ckc_build_words.specs.Places.{PlacesFit}
use Rattle.ckc_build.proofs.Blame.{accepted, meant_by}
use Rattle.ckc_build.proofs.laws.programs_have_the_form.Goals as goal

pub returns : goal.returns
returns c =
    meant_by (λ (q : Program). PlacesFit q → IsCompilable q)
    (λ text p m. c.accepted_texts_have_the_form.ensures text p (accepted c.texts_exactly.ensures.exact text p m))
