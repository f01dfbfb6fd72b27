use Rattle.std.proofs.Common.{Bool, [], sym, subst}
use Rattle.std.specs.Prelude.{IfOk}
use Rattle.std.specs.Bool.{MatchBool}
use Rattle.ckc_tac.specs.declared.code.Comparison.{Comparison}
use Rattle.ckc_tac.specs.declared.code.Comparison.TheVariants.{LtU}
use Rattle.ckc_tac.specs.declared.code.Operand.{Operand}
use Rattle.ckc_tac.specs.declared.code.Operand.TheVariants.{Register}
use Rattle.ckc_passes.specs.Rewrites.{all_done}
use Rattle.ckc_passes_known.specs.Known.{IsWithin}
use Rattle.ckc_passes_known.proofs.blocks.is_within.Goals as goal

pub returns-in-LtU-Register-true : goal.returns-in-LtU-Register-true
returns-in-LtU-Register-true c =
    let blocks = c.args.blocks.now in
    let b = c.args.b in
    let done = all_done [] c.args.before.now in
    let test = c.args.test in
    let below = c.in-LtU-Register-true in
    subst (λ (k : Comparison). IfOk c.is_below.result (λ within. MatchBool within (IsWithin blocks b done k test.a test.b test.holds) (IsWithin blocks b done k test.a test.b test.holds → ⊥))) (sym below.is-0)
    (subst (λ (x : Operand). IfOk c.is_below.result (λ within. MatchBool within (IsWithin blocks b done LtU x test.b test.holds) (IsWithin blocks b done LtU x test.b test.holds → ⊥))) (sym below.is-1)
    (subst (λ (h : Bool). IfOk c.is_below.result (λ within. MatchBool within (IsWithin blocks b done LtU (Register below.r) test.b h) (IsWithin blocks b done LtU (Register below.r) test.b h → ⊥))) (sym below.is-2)
    c.is_below.ensures))
