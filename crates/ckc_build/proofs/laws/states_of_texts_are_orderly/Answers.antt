use Rattle.ckc_build.proofs.laws.states_of_texts_are_orderly.Goals as goal

pub returns : goal.returns
returns c = λ text p input n m. c.states_are_orderly.ensures p input n (c.programs_are_laid_out.ensures text p m)
