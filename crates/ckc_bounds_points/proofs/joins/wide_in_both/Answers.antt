use Rattle.std.proofs.Common.{rules, ◌∙◌, ap, ℕ}
use Rattle.std.specs.Prelude.{◌==◌}
use Rattle.std.specs.List.{filter, list_any}
use Rattle.std.proofs.lemmas.Fn.{filter_same}
use Rattle.ckc_bounds_points.proofs.joins.wide_in_both.Goals as goal

pub returns : goal.returns
returns c =
    let kept = λ (p : ℕ). list_any (λ q. q == p) c.args.qs.now in
    c.from_vec.ensures ∙ filter_same _ kept _ (λ f b f' k. search rules) _ _ c.retain.ensures.filtered
    ∙ ap (filter kept) c.in_ok-items.ensures.items
