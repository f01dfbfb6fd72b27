use Rattle.ckc_blame_sound.proofs.Flow.{facts_assigned_hold}
use Rattle.ckc_blame_sound.proofs.laws.assignments_hold.Goals as goal

pub returns : goal.returns
returns c = λ frame locals k n l form at reached there within word is h. facts_assigned_hold frame locals k n l form at reached there within word is h
