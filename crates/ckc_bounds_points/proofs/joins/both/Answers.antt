use Rattle.std.proofs.Common.{rules, ◌∙◌, ap}
use Rattle.std.specs.List.{filter, list_any}
use Rattle.std.proofs.lemmas.Fn.{filter_same}
use Rattle.ckc_linear.specs.declared.facts.Fact.{Fact}
use Rattle.ckc_bounds_points.specs.Flow.{same_fact}
use Rattle.ckc_bounds_points.proofs.joins.both.Goals as goal

pub returns : goal.returns
returns c =
    let kept = λ (f : Fact). list_any (same_fact f) c.args.other.now in
    c.from_vec.ensures ∙ filter_same _ kept _ (λ f b f' k. search rules) _ _ c.retain.ensures.filtered
    ∙ ap (filter kept) c.into_vec-items.ensures
