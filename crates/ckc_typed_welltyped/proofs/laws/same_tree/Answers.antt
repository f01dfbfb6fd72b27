use Rattle.ckc_typed_welltyped.proofs.Texts.{gives}
use Rattle.ckc_typed_welltyped.proofs.laws.same_tree.Goals as goal

pub returns : goal.returns
returns c = record {
  tree = λ t p e. (gives t p e).tree;
  main = λ t p e. (gives t p e).main;
}
