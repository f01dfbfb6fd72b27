use Rattle.ckc_blame_sound.proofs.Frames.{frames_agree, variables_have_types, locals_are_there, function_counts}
use Rattle.ckc_blame_sound.proofs.texts_laws.frames_agree.Goals as goal

pub returns : goal.returns
returns c = record { agree = frames_agree; types = variables_have_types; there = locals_are_there; counts = function_counts }
