use Rattle.std.proofs.Common.{[], subst}
use Rattle.std.proofs.lemmas.Bool.{MatchBool-at_false}
use Rattle.ckc_passes.specs.Rewrites.{all_done}
use Rattle.ckc_passes_known.specs.declared.facts.Fact.{Fact}
use Rattle.ckc_passes_known.specs.Known.{IsForgotten}
use Rattle.ckc_passes_known.proofs.Decided.{by_third}
use Rattle.ckc_passes_known.proofs.blocks.is_decided.Goals as goal

pub returns : goal.returns
returns c =
    let done = all_done [] c.args.before.now in
    by_third _ _ _ (MatchBool-at_false _ _ c.if-is_always.false c.is_always.ensures)
    (subst (λ (fact : Fact). IsForgotten c.args.blocks.now fact c.args.b done) c.claim-fact.ensures (MatchBool-at_false _ _ c.if-known.false c.in_ok-known.ensures))
    c.is_within.result c.is_within.ensures
