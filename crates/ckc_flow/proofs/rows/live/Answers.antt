use Rattle.std.proofs.Common.{◌≡◌, length, subst, sym, ap, ◌∙◌}
use Rattle.std.proofs.lemmas.Bool.{MatchBool-at_false}
use Rattle.ckc_flow.specs.Live.{AreExact}
use Rattle.ckc_flow.specs.code.Rounds.{AreSound, AreClosed}
use Rattle.ckc_flow.proofs.Rounds.{exact_rows}
use Rattle.ckc_flow.proofs.rows.live.Goals as goal

pub returns : goal.returns
returns c =
    let f = c.args.f.now in
    let rows = c.round.new.rows.items in
    let long : length c.as_mut_slice.result.now ≡ f.regs = ap length c.as_mut_slice.ensures.value ∙ c.rounds.invariant.long in
    let same = c.as_slice-blocks.ensures in
    let closed = MatchBool-at_false _ _ c.if-not-grown.true c.in_ok-grown.ensures.ends in
    subst (λ l. AreExact f l) (sym c.from_vec.ensures)
    (exact_rows f (length c.as_mut_slice.result.now) rows long
    (subst (λ blocks. AreSound blocks (length c.as_mut_slice.result.now) rows) same c.in_ok-grown.ensures.sound)
    (subst (λ blocks. AreClosed blocks (length c.as_mut_slice.result.now) 0 rows) same closed))
