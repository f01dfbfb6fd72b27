use Rattle.std.proofs.Common.{◌∷◌, sym, subst}
use Rattle.ckc_flow.specs.Live.{IsExact}
use Rattle.ckc_flow.proofs.Exact.{op_exact}
use Rattle.ckc_flow.proofs.transfer.before_op.Goals as goal

pub returns : goal.returns
returns c = record {
  exact = λ f ops end x.
      subst (λ row. IsExact f (c.args.op.now ∷ ops) end row) (sym c.pass.ensures) (op_exact f c.args.op.now ops end c.args.row.now x);
}
