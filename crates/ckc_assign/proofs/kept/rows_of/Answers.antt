use Rattle.std.proofs.Common.{◌≡◌, ◌∙◌, ◌+◌, ◌-◌, List, [], ◌∷◌, length, drop, reverse, get_or, sym, ap, subst, arith}
use Rattle.std.proofs.lemmas.List.{drop_more, drop_all, get_or_read}
use Rattle.ckc_tac.specs.declared.code.TacOp.{TacOp}
use Rattle.ckc_flow.specs.Live.{IsExact}
use Rattle.ckc_assign.specs.code.Ranges.{no_op}
use Rattle.ckc_assign.specs.code.Kept.{AreKept}
use Rattle.ckc_assign.proofs.Calls.{kept_put}
use Rattle.ckc_assign.proofs.kept.rows_of.Goals as goal

pub loop-i-init : goal.loop-i-init
loop-i-init c = record {
  within = omega arith;
  kept = λ f end x.
      let ops = c.args.ops.now in
      let none : drop (length ops) ops ≡ [] = drop_all (length ops) ops (omega arith) in (
        subst (λ (l : List TacOp). IsExact f l end c.args.row.now) (sym none) x,
        subst (λ (l : List TacOp). AreKept f end l (reverse c.new-rows.result.items)) (sym none) (ap reverse c.new-rows.ensures.items),
      );
}

pub loop-i-preserved : goal.loop-i-preserved
loop-i-preserved c =
    let ops = c.args.ops.now in
    let i = c.loop-i.i - 1 in
    let within = c.loop-i.invariant.within in
    let op = get_or ops i no_op in
    let next : i + 1 ≡ c.loop-i.i = omega (arith, c.loop-i-test.true) in
    let more : drop i ops ≡ op ∷ drop c.loop-i.i ops = drop_more ops i no_op (omega (arith, c.loop-i-test.true)) ∙ ap (λ n. op ∷ drop n ops) next in
    let one : c.index-ops-i.result ≡ op = get_or_read ops i c.index-ops-i.result (omega (arith, c.loop-i-test.true)) c.index-ops-i.is no_op in
    let two : c.index-ops-i-in-loop-i.result ≡ op = get_or_read ops i c.index-ops-i-in-loop-i.result (omega (arith, c.loop-i-test.true)) c.index-ops-i-in-loop-i.is no_op in
    record {
      within = omega arith;
      kept = λ f end x.
          let k = c.loop-i.invariant.kept f end x in
          let exact = c.before_op.ensures.exact f (drop c.loop-i.i ops) end k.0 in (
            subst (λ (l : List TacOp). IsExact f l end c.before_op.new.row) (ap (λ (o : TacOp). o ∷ drop c.loop-i.i ops) two ∙ sym more) exact,
            subst (λ (l : List TacOp). AreKept f end l (reverse c.put_row.new.rows.items)) (ap (λ (o : TacOp). o ∷ drop c.loop-i.i ops) one ∙ sym more)
                (kept_put f end c.index-ops-i.result (drop c.loop-i.i ops) c.loop-i.row c.loop-i.rows.items c.put_row.new.rows.items c.in_ok-put_row.ensures k.0 k.1),
          );
    }
