use Rattle.ckc_blame_sound.proofs.Faults.{good}
use Rattle.ckc_blame_sound.proofs.ContainedMembers.{assigned_covered}
use Rattle.ckc_blame_sound.proofs.contained_laws.members_are_covered.Goals as goal

pub returns : goal.returns
returns c = λ s seen at there ps result p m shape among none is stored member touched.
    assigned_covered s.frame result ps at p m shape among none is ((good s.frame result seen ps at there stored).targets p among) member touched
