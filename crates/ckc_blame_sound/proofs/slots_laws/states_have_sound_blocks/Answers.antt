use Rattle.ckc_blame_sound.proofs.slots_laws.states_have_sound_blocks.Goals as goal

pub returns : goal.returns
returns c = λ p s sound. record { apart = sound.orderly.apart; bytes = sound.orderly.bytes; memory = sound.memory }
