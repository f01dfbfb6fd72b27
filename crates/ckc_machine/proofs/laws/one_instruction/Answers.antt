use Rattle.ckc_machine.proofs.Points.{goes_on, halts_then, next_goes, stays}
use Rattle.ckc_machine.proofs.laws.one_instruction.Goals as goal

pub returns : goal.returns
returns c = record {
  goes = λ parts input k events next h e. (goes_on parts input k events next h e, next_goes parts input k events next e);
  halts = λ parts input k events standing h e. halts_then parts input k events standing h e;
  stays = λ parts input d k h. stays parts input d k h;
}
