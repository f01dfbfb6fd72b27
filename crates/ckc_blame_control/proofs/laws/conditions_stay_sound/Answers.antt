use Rattle.ckc_blame_control.proofs.Conditions.{if_sound, loop_sound, check_sound}
use Rattle.ckc_blame_control.proofs.laws.conditions_stay_sound.Goals as goal

pub returns : goal.returns
returns c = record { branch = if_sound; check = check_sound; turn = loop_sound }
