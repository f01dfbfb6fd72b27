use Rattle.std.proofs.Common.{rules, ◌∙◌, ap}
use Rattle.std.specs.List.{filter}
use Rattle.std.proofs.lemmas.Fn.{filter_same}
use Rattle.ckc_bounds_points.specs.Flow.{stays_small}
use Rattle.ckc_bounds_points.proofs.point.without_large.Goals as goal

pub returns : goal.returns
returns c =
    let kept = stays_small c.args.by.0 c.args.by.1.add in
    c.from_vec.ensures ∙ filter_same _ kept _ (λ f b f' k. search rules) _ _ c.retain.ensures.filtered
    ∙ ap (filter kept) c.into_vec-items.ensures
