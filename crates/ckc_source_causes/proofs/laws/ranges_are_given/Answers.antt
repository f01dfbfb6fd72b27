use Rattle.ckc_source_causes.proofs.Given.{given_value, judged, cast_judged}
use Rattle.ckc_source_causes.proofs.laws.ranges_are_given.Goals as goal

pub returns-clause-given : goal.returns-clause-given
returns-clause-given c = λ p l t last e s v g is. given_value p l s t last e v g is

pub returns-clause-accesses : goal.returns-clause-accesses
returns-clause-accesses c = λ p l access e i s v n g is. judged p l s e i v access.through access n (λ t. Unit {0}) g is

pub returns-clause-casts : goal.returns-clause-casts
returns-clause-casts c = λ p l t last size form at e s v k g is. cast_judged size form at v k (given_value p l s t last e v g is)
