use Rattle.std.proofs.Common.{inl, inr, ◌∙◌, ◌∷◌, ◌++◌, [], refl, ap}
use Rattle.std.proofs.lemmas.Bool.{MatchBool-at_true, MatchBool-at_false}
use Rattle.ckc_tac.specs.declared.code.TacOp.{TacOp}
use Rattle.ckc_passes_known.proofs.blocks.pass.Goals as goal

pub returns-then-needless : goal.returns-then-needless
returns-then-needless c = inl (MatchBool-at_true _ _ c.if-needless.true c.in_ok-needless.ensures, refl)

pub returns : goal.returns
returns c =
    inr (
      MatchBool-at_false _ _ c.if-needless.false c.in_ok-needless.ensures,
      c.in_ok-push.ensures.items ∙ ap (λ (o : TacOp). c.args.left.now.items ++ o ∷ []) c.in_ok-copy.ensures,
    )
