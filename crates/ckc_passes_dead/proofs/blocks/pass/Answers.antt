use Rattle.std.proofs.Common.{◌∙◌, ◌∷◌, ◌++◌, [], sym, ap}
use Rattle.ckc_tac.specs.declared.code.TacOp.{TacOp}
use Rattle.ckc_passes_dead.proofs.Passing.{drops, keeps}
use Rattle.ckc_passes_dead.proofs.blocks.pass.Goals as goal

pub returns-then-dead : goal.returns-then-dead
returns-then-dead c = drops c.args.op.now c.args.row.now c.args.left.now.items (sym c.is_dead-dead.ensures ∙ c.if-dead.true)

pub returns : goal.returns
returns c =
    keeps c.args.op.now c.args.row.now c.before_op.new.row c.args.left.now.items c.push.new.self.items
    (sym c.is_dead-dead.ensures ∙ c.if-dead.false) c.before_op.ensures.exact
    (c.in_ok-push.ensures.items ∙ ap (λ (o : TacOp). c.args.left.now.items ++ o ∷ []) c.in_ok-copy.ensures)
