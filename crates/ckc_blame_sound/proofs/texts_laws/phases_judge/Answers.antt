use Rattle.std.proofs.Common.{subst}
use Rattle.ckc_typed.specs.declared.typed.Typed.{Typed}
use Rattle.ckc_bounds.specs.Phase.{bounding}
use Rattle.ckc_blame_sound.proofs.texts_laws.phases_judge.Goals as goal

pub returns : goal.returns
returns c = λ tree named typed p form names types made. record {
  spelled = tree;
  named = named;
  typed = typed;
  has_form = form;
  has_names = names;
  has_types = types;
  has_bounds = subst (λ (q : Typed). bounding.Makes q p) made.1.1 made.2;
}
