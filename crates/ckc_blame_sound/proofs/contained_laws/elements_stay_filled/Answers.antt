use Rattle.ckc_blame_sound.proofs.Alone.{element_filled}
use Rattle.ckc_blame_sound.proofs.contained_laws.elements_stay_filled.Goals as goal

pub returns : goal.returns
returns c = λ s next to before after number i b shapes old locals v at there p seen result parts sound cells done is below scalar zero_is known stored one filled.
    element_filled s parts next to before after sound cells done number i b is below scalar shapes locals v zero_is at known p seen result there stored one old filled
