use Rattle.ckc_build.proofs.laws.stuck_runs_have_a_cause.Goals as goal

pub returns : goal.returns
returns c = λ text p m. c.runs_are_stuck_for_a_cause.ensures p (c.programs_are_well_formed.ensures text p m)
