use Rattle.std.proofs.Common.{[], sym, ap, subst, ◌∙◌}
use Rattle.ckc_flow.specs.Live.{IsExact}
use Rattle.ckc_flow.specs.code.Rows.{ended}
use Rattle.ckc_flow.proofs.Exact.{end_exact}
use Rattle.ckc_flow.proofs.transfer.before_end.Goals as goal

pub returns : goal.returns
returns c = record {
  exact = λ f x long.
      let end = c.args.end.now in
      subst (λ row. IsExact f [] end row) (sym (c.meet.ensures ∙ ap (λ n. ended c.args.rows.now n end) long)) (end_exact f c.args.rows.now x end);
}
