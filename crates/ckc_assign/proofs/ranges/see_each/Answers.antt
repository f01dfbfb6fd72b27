use Rattle.std.proofs.Common.{◌≡◌, ◌∙◌, ◌==◌, ⊎_elim, inl, inr, sym, ℕ, ◌+◌, get_or, take, true}
use Rattle.std.specs.List.{list_any}
use Rattle.std.proofs.lemmas.Bool.{or_cases, or_left, or_right}
use Rattle.std.proofs.lemmas.List.Folds.{list_any_more}
use Rattle.ckc_assign.proofs.Growing.{sees_then, test_same, same_test}
use Rattle.ckc_assign.proofs.ranges.see_each.Goals as goal

pub loop-r-preserved : goal.loop-r-preserved
loop-r-preserved c =
    let rs = c.args.rs.now in
    let i = c.loop-r.r-index in
    let r = get_or rs i 0 in
    let p = λ (q a : ℕ). a == q in
    sees_then c.args.place (λ q. list_any (p q) (take i rs) ≡ true) (λ q. r ≡ q) (λ q. list_any (p q) (take (i + 1) rs) ≡ true)
    c.args.ranges.now c.loop-r.ranges c.see.new.ranges c.loop-r.invariant c.see.ensures
    (λ q h. ⊎_elim (λ k. inl k) (λ k. inr (test_same r q k))
    (or_cases (list_any (p q) (take i rs)) (r == q) (sym (list_any_more (p q) rs i 0 c.loop-r-test.true) ∙ h)))
    (λ q h. list_any_more (p q) rs i 0 c.loop-r-test.true ∙ or_left (list_any (p q) (take i rs)) (r == q) h)
    (λ q h. list_any_more (p q) rs i 0 c.loop-r-test.true ∙ or_right (list_any (p q) (take i rs)) (r == q) (same_test r q h))
