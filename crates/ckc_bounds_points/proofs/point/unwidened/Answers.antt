use Rattle.std.proofs.Common.{rules, ◌∙◌, ap, not, ℕ}
use Rattle.std.specs.List.{filter}
use Rattle.std.proofs.lemmas.Fn.{filter_same}
use Rattle.ckc_bounds_points.specs.Flow.{widening_names}
use Rattle.ckc_bounds_points.proofs.point.unwidened.Goals as goal

pub returns : goal.returns
returns c =
    let kept = λ (p : ℕ). not (widening_names c.args.frame.now c.args.k p) in
    c.from_vec.ensures ∙ filter_same _ kept _ (λ f b f' k. search rules) _ _ c.retain.ensures.filtered
    ∙ ap (filter kept) c.in_ok-items.ensures.items
