use Rattle.std.proofs.Common.{◌∙◌}
use Rattle.ckc_parser_stacks.proofs.Visiting.{call_again}
use Rattle.ckc_parser_stacks.proofs.remade.remade_call.Goals as goal

pub returns : goal.returns
returns g c = λ rest e. call_again c.in_ok-name.name c.args.name.now c.in_ok-all.all c.args.arguments.now rest c.take_all.new.made c.args.made.now c.in_ok-name.ensures (c.in_ok-all.ensures.0 ∙ c.len.ensures) c.in_ok-all.ensures.1 e
