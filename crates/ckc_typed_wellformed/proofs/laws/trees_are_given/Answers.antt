use Rattle.ckc_typed_wellformed.proofs.Derived.{tree_given}
use Rattle.ckc_typed_wellformed.proofs.laws.trees_are_given.Goals as goal

pub returns : goal.returns
returns c = record {
  given = tree_given;
}
