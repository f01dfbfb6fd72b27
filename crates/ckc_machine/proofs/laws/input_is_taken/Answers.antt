use Rattle.ckc_machine.proofs.Points.{input_taken}
use Rattle.ckc_machine.proofs.laws.input_is_taken.Goals as goal

pub returns : goal.returns
returns c = λ parts input k. input_taken parts input k
