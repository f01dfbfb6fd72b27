use Rattle.std.proofs.Common.{[], sym, subst}
use Rattle.std.specs.Prelude.{IfOk}
use Rattle.std.specs.Bool.{MatchBool}
use Rattle.ckc_tac.specs.declared.code.TacOp.{TacOp}
use Rattle.ckc_passes.specs.Rewrites.{all_done}
use Rattle.ckc_passes_known.specs.Known.{IsNeedless}
use Rattle.ckc_passes_known.proofs.blocks.is_needless.Goals as goal

pub returns-in-Check : goal.returns-in-Check
returns-in-Check c =
    let blocks = c.args.blocks.now in
    let b = c.args.b in
    let done = all_done [] c.args.before.now in
    subst (λ (op : TacOp). IfOk c.is_decided.result (λ needless. MatchBool needless (IsNeedless blocks b done op) (IsNeedless blocks b done op → ⊥)))
    (sym c.in-Check.is) c.is_decided.ensures
