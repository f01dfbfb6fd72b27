use Rattle.ckc_build_elaborate.specs.Objects.{count_declared}
use Rattle.ckc_build_elaborate.proofs.There.{is_there}
use Rattle.ckc_build_elaborate.proofs.laws.functions_are_there.Goals as goal

pub returns : goal.returns
returns c = record { there = λ p n d. is_there p n (count_declared p.tree.items) p.tree.items d }
