use Rattle.std.proofs.Common.{◌∙◌, subst}
use Rattle.ckc_typed.specs.declared.typed.Typed.{Typed}
use Rattle.ckc_blame_sound.specs.ckc_bounds.specs.Phase.{bounding}
use Rattle.ckc_blame_walk.proofs.first_laws.phases_begin_soundly.Goals as goal

pub returns : goal.returns
returns c = λ tokens whole named typed p input parsed resolved types made.
    let form = c.trees_are_given.ensures.given tokens.list whole parsed in
    c.first_state_is_sound.ensures.judged p input (record {
      spelled = whole;
      named = named;
      typed = typed;
      has_form = form;
      has_names = resolved;
      has_types = types;
      has_bounds = subst (λ (q : Typed). bounding.Makes q p) made.1.1 made.2;
    })
    (c.plain_texts_are_given.ensures.given whole named form resolved)
    (c.plain_texts_are_within.ensures.small whole named resolved)
    (c.judged_texts_are_nested.ensures.nested whole named typed form resolved types)
