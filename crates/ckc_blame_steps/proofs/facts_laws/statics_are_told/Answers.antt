use Rattle.ckc_blame_steps.proofs.Told.{statics_told}
use Rattle.ckc_blame_steps.proofs.StaticKinds.{statics_integers, statics_arrays, statics_pointers}
use Rattle.ckc_blame_steps.proofs.StaticTargets.{statics_counts, statics_ranges}
use Rattle.ckc_blame_steps.proofs.facts_laws.statics_are_told.Goals as goal

pub returns : goal.returns
returns c = record { told = statics_told; integers = statics_integers; arrays = statics_arrays; pointers = statics_pointers; counts = statics_counts; ranges = statics_ranges }
