-- An image has no bad part, one format and one set of parts.
use Rattle.ckc_image.proofs.Agreement.{never_bad, same_parts}
use Rattle.ckc_image.proofs.laws.write_then_read.Goals as goal

pub returns-clause-good : goal.returns-clause-good
returns-clause-good c = λ format bytes code initial entry k image. never_bad format bytes entry code initial image k

pub returns-clause-parts : goal.returns-clause-parts
returns-clause-parts c = λ f g bytes code initial code' initial' entry entry' one other. same_parts f g bytes entry entry' code code' initial initial' one other
