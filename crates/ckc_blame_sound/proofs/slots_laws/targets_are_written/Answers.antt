use Rattle.std.proofs.Common.{refl}
use Rattle.ckc_blame_sound.proofs.Aimed.{target_there, ranged_write, named_write}
use Rattle.ckc_blame_sound.proofs.slots_laws.targets_are_written.Goals as goal

pub returns : goal.returns
returns c = record {
  there = λ p next store width access range a z sound cell. target_there p store.blocks next sound store refl width access range a z cell;
  ranged = λ p blocks next width access low high a n w sound cell how l e. ranged_write p blocks next sound width access low high a n w cell how l e;
  named = λ p blocks next width access range a n w sound cell l e. named_write p blocks next sound width access range a n w cell l e;
}
