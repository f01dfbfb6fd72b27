use Rattle.ckc_blame_steps.proofs.Pointees.{object_fine, fine_integer, typed_fine}
use Rattle.ckc_blame_steps.proofs.facts_laws.pointees_are_integers.Goals as goal

pub returns : goal.returns
returns c = record { objects = object_fine; typed = typed_fine; integers = fine_integer }
