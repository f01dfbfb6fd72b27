use Rattle.std.proofs.Common.{inl, inr, ◌∙◌, ◌∷◌, ◌++◌, [], refl, ap}
use Rattle.std.proofs.lemmas.Bool.{MatchBool-at_true, MatchBool-at_false}
use Rattle.ckc_tac.specs.declared.code.TacOp.{TacOp}
use Rattle.ckc_passes_redundant.proofs.blocks.pass.Goals as goal

pub returns-then-repeats : goal.returns-then-repeats
returns-then-repeats c = λ done long k.
    let t = c.in_ok-repeats.ensures done long k in
    (t.0, inl (MatchBool-at_true _ _ c.if-repeats.true t.1, refl))

pub returns : goal.returns
returns c = λ done long k.
    let t = c.in_ok-repeats.ensures done long k in
    (t.0, inr (MatchBool-at_false _ _ c.if-repeats.false t.1, c.in_ok-push.ensures.items ∙ ap (λ (o : TacOp). c.args.left.now.items ++ o ∷ []) c.in_ok-copy.ensures))
