use Rattle.std.proofs.Common.{[]}
use Rattle.ckc_base.proofs.Runs.{shown-later}
use Rattle.ckc_source.specs.Source.{source_system, first_state}
use Rattle.ckc_source.proofs.laws.source_goes_on.Goals as goal

pub returns-clause-begins : goal.returns-clause-begins
returns-clause-begins c = λ p input n k h. (shown-later (source_system p) n k 0 [] (first_state p input) h).begins

pub returns-clause-stays : goal.returns-clause-stays
returns-clause-stays c = λ p input n k h going. (shown-later (source_system p) n k 0 [] (first_state p input) h).stays going
