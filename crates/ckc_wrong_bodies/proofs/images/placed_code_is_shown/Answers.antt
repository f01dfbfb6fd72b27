use Rattle.ckc_wrong_bodies.proofs.images.placed_code_is_shown.Goals as goal

pub returns : goal.returns
returns c = λ p parts input n bytes follows goes. (follows input bytes).forward n goes
