use Rattle.ckc_blame_sound.proofs.Spared.{members_filled}
use Rattle.ckc_blame_sound.proofs.contained_laws.members_stay_filled.Goals as goal

pub returns : goal.returns
returns c = λ s next ws before after number i tag b shapes old locals v w at there ps seen result structs own names parts sound cells done structure zero_is zero_too known
    stored are once filled.
    members_filled s structs own names parts next ws before after sound cells done number i tag b structure shapes locals v w zero_is zero_too at known ps seen result there
    stored are once old filled
