use Rattle.std.proofs.Common.{inl, inr, [], refl, sym, subst}
use Rattle.std.proofs.lemmas.Bool.{MatchBool-at_true, MatchBool-at_false}
use Rattle.ckc_tac.specs.declared.code.TacEnd.{TacEnd}
use Rattle.ckc_tac.specs.declared.code.TacEnd.TheVariants.{Jump, Branch}
use Rattle.ckc_passes.specs.Rewrites.{all_done}
use Rattle.ckc_passes_known.specs.Known.{EndBecomes}
use Rattle.ckc_passes_known.proofs.blocks.left_of_end.Goals as goal

pub returns-then-holds : goal.returns-then-holds
returns-then-holds c =
    subst (λ (end : TacEnd). EndBecomes c.args.blocks.now c.args.b (all_done [] c.args.before.now) end (Jump c.in-Branch.one)) (sym c.in-Branch.is)
    (inl (MatchBool-at_true _ _ c.if-holds.true c.in_ok-holds-in-Branch.ensures, refl))

pub returns-then-fails : goal.returns-then-fails
returns-then-fails c =
    subst (λ (end : TacEnd). EndBecomes c.args.blocks.now c.args.b (all_done [] c.args.before.now) end (Jump c.in-Branch.two)) (sym c.in-Branch.is)
    (inr (MatchBool-at_false _ _ c.if-holds.false c.in_ok-holds-in-Branch.ensures, inl (MatchBool-at_true _ _ c.if-fails.true c.in_ok-fails-in-Branch.ensures, refl)))

pub returns-else-fails : goal.returns-else-fails
returns-else-fails c =
    subst (λ (end : TacEnd). EndBecomes c.args.blocks.now c.args.b (all_done [] c.args.before.now) end (Branch c.in-Branch.c c.in-Branch.x c.in-Branch.y c.in-Branch.one c.in-Branch.two))
    (sym c.in-Branch.is)
    (inr (MatchBool-at_false _ _ c.if-holds.false c.in_ok-holds-in-Branch.ensures, inr (MatchBool-at_false _ _ c.if-fails.false c.in_ok-fails-in-Branch.ensures, refl)))
