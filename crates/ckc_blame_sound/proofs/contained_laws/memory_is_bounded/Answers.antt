use Rattle.ckc_blame_sound.proofs.Faults.{good}
use Rattle.ckc_blame_sound.proofs.Memory.{memory_read, member_counted}
use Rattle.ckc_blame_sound.proofs.contained_laws.memory_is_bounded.Goals as goal

pub returns : goal.returns
returns c = record {
  target = λ s store before after seen at there ps result p n low high zero_is zero_too own known placed from given ends among none is stored.
      memory_read s store before after at ps p n low high zero_is zero_too own known placed from given ends result none is
      ((good s.frame result seen ps at there stored).targets p among);
  counted = λ structs tag n t m v b count z low high zero_is own is counts given read. member_counted structs tag t m v n zero_is own b count z low high is counts given read;
}
