use Rattle.ckc_machine.proofs.Arrivals.{puts_are_silent}
use Rattle.ckc_machine.proofs.laws.puts_ask_nothing.Goals as goal

pub returns : goal.returns
returns c = λ parts input k limit puts. puts_are_silent parts input k limit puts
