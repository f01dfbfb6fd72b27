use Rattle.ckc_blame_sound.proofs.Contained.{contained_reads, more_known}
use Rattle.ckc_blame_sound.proofs.contained_laws.contained_is_true.Goals as goal

pub returns : goal.returns
returns c = record {
  bounds = λ m before after n value bases variables low high zero_is judged like contained.
      contained_reads m before after n value bases variables low high zero_is like judged contained;
  facts = λ p m v n r before allocated facts placed ranged some all. more_known p m v n placed some r before allocated facts ranged all;
}
