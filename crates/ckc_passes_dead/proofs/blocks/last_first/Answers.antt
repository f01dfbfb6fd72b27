use Rattle.std.proofs.Common.{◌≡◌, ◌∙◌, ◌+◌, ◌-◌, ℕ, List, [], ◌∷◌, length, drop, reverse, get_or, refl, sym, ap, subst, arith}
use Rattle.std.proofs.lemmas.List.{drop_more, drop_all, get_or_read}
use Rattle.std.proofs.lemmas.List.Elements.{All-get_or}
use Rattle.ckc_tac.specs.declared.code.TacOp.{TacOp}
use Rattle.ckc_tac.specs.declared.code.TacOp.TheVariants.{Get}
use Rattle.ckc_tac.specs.WellFormed.{IsOpOver}
use Rattle.ckc_passes.specs.Passes.{ended}
use Rattle.ckc_passes_dead.specs.code.Passing.{IsLeft}
use Rattle.ckc_passes_dead.proofs.blocks.last_first.Goals as goal

abbrev no_op : TacOp
no_op = Get 0

pub loop-i-init : goal.loop-i-init
loop-i-init c = record {
  within = omega arith;
  left = λ f functions end over x.
      let ops = c.args.ops.now in
      let none : drop (length ops) ops ≡ [] = drop_all (length ops) ops (omega arith) in
      subst (λ (l : List TacOp). IsLeft f end l (reverse c.new-left.result.items) c.args.row.now) (sym none)
      (subst (λ (l : List TacOp). IsLeft f end [] (reverse l) c.args.row.now) (sym c.new-left.ensures.items)
      (record { becomes = λ done. ended refl; exact = x }));
}

pub loop-i-preserved : goal.loop-i-preserved
loop-i-preserved c =
    let ops = c.args.ops.now in
    let i = c.loop-i.i - 1 in
    let within = c.loop-i.invariant.within in
    let op = get_or ops i no_op in
    let next : i + 1 ≡ c.loop-i.i = omega (arith, c.loop-i-test.true) in
    let more : drop i ops ≡ op ∷ drop c.loop-i.i ops = drop_more ops i no_op (omega (arith, c.loop-i-test.true)) ∙ ap (λ n. op ∷ drop n ops) next in
    let same : c.index-ops-i.result ≡ op = get_or_read ops i c.index-ops-i.result (omega (arith, c.loop-i-test.true)) c.index-ops-i.is no_op in
    record {
      within = omega arith;
      left = λ f functions end over x.
          let here = subst (IsOpOver functions f.regs) (sym same) (All-get_or (IsOpOver functions f.regs) ops i no_op (omega (arith, c.loop-i-test.true)) over) in
          let passed = c.in_ok-pass.ensures f functions end (drop c.loop-i.i ops) here (c.loop-i.invariant.left f functions end over x) in
          subst (λ (l : List TacOp). IsLeft f end l (reverse c.pass.new.left.items) c.pass.new.row)
          (ap (λ (o : TacOp). o ∷ drop c.loop-i.i ops) same ∙ sym more) passed;
    }

pub returns : goal.returns
returns c = λ f functions end over x.
    let none : c.loop-i.i ≡ 0 = omega arith in
    let is = subst (λ (n : ℕ). IsLeft f end (drop n c.args.ops.now) (reverse c.loop-i.left.items) c.loop-i.row) none
    (c.loop-i.invariant.left f functions end over x) in
    is.becomes []
