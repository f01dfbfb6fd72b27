use Rattle.std.proofs.Common.{◌∙◌, ap, arith}
use Rattle.ckc_tac.specs.declared.code.Tac.{Tac}
use Rattle.ckc_build_compile.proofs.Passing.{one_pass, pass_more, few_kept}
use Rattle.ckc_build_compile.proofs.passes.passed.Goals as goal

pub fold-requires : goal.fold-requires
fold-requires c = record { whole = c.requires }

pub copies-requires : goal.copies-requires
copies-requires c = record { whole = c.in_ok-folded.ensures.whole }

pub redundant-requires : goal.redundant-requires
redundant-requires c = c.in_ok-copied.ensures.whole

pub known-requires : goal.known-requires
known-requires c = c.in_ok-checked.ensures.whole

pub jumps-requires : goal.jumps-requires
jumps-requires c = c.in_ok-decided.ensures.whole

pub dead-requires : goal.dead-requires
dead-requires c = c.in_ok-short.ensures.whole

pub returns : goal.returns
returns c =
    let t = c.args.t.now in
    let f = c.in_ok-folded.ensures in
    let k = c.in_ok-copied.ensures in
    let r = c.in_ok-checked.ensures in
    let w = c.in_ok-decided.ensures in
    let j = c.in_ok-short.ensures in
    let d = c.in_ok-last.ensures in
    record {
      whole = d.whole;
      few = few_kept t c.in_ok-last.last (d.registers ∙ j.registers ∙ w.registers ∙ r.registers ∙ k.registers ∙ f.registers);
      size = omega (arith, f.size, k.size, r.size, w.size, j.size, d.size);
      initial = d.exact.initial ∙ j.exact.initial ∙ w.exact.initial ∙ r.exact.initial ∙ ap (λ (t : Tac). t.initial) k.exact ∙ ap (λ (t : Tac). t.initial) f.exact;
      follows =
          pass_more t c.in_ok-short.short c.in_ok-last.last 5
          (pass_more t c.in_ok-decided.decided c.in_ok-short.short 4
          (pass_more t c.in_ok-checked.checked c.in_ok-decided.decided 3
          (pass_more t c.in_ok-copied.copied c.in_ok-checked.checked 2
          (pass_more t c.in_ok-folded.folded c.in_ok-copied.copied 1 (one_pass t c.in_ok-folded.folded f.follows) k.follows) r.follows) w.follows) j.follows) d.follows;
    }
