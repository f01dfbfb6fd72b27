use Rattle.std.proofs.Common.{◌≡◌, ◌∙◌, ◌^◌, w64, SFits, rules, sym, ap, true, pos}
use Rattle.std.specs.Prelude.{int_le}
use Rattle.std.proofs.lemmas.Int.{to_z-of_z}
use Rattle.ckc_bounds_known.specs.Shown.{known, is_within}
use Rattle.ckc_bounds_known.proofs.Reaching.{shown_at_once, shown_by_one}
use Rattle.ckc_bounds_known.proofs.shown.is_shown.Goals as goal

pub returns-then-f-ge0 : goal.returns-then-f-ge0
returns-then-f-ge0 c =
    let fits : SFits w64 c.args.f.c = search rules in
    let small : is_within (2 ^ 50) c.args.f.c ≡ true =
    ap (is_within (2 ^ 50)) (sym (to_z-of_z w64 c.args.f.c fits)) ∙ sym c.if-is_within.ensures in
    sym (shown_at_once (known c.args.facts.now) c.args.f c.if-f-facts.true c.if-f-facts-2.true small c.if-f.true (ap (int_le (pos 0)) (sym (to_z-of_z w64 c.args.f.c fits)) ∙ c.if-f-ge0.true))

pub returns-then-stands : goal.returns-then-stands
returns-then-stands c =
    let fits : SFits w64 c.args.f.c = search rules in
    let small : is_within (2 ^ 50) c.args.f.c ≡ true =
    ap (is_within (2 ^ 50)) (sym (to_z-of_z w64 c.args.f.c fits)) ∙ sym c.if-is_within.ensures in
    sym (shown_by_one (known c.args.facts.now) c.args.f c.if-f-facts.true c.if-f-facts-2.true small (sym c.stands.ensures ∙ c.if-stands.true))
