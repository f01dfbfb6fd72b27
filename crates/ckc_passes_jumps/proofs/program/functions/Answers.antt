use Rattle.std.proofs.Common.{◌+◌, List, take, sym, subst}
use Rattle.std.specs.List.{AllZip}
use Rattle.std.proofs.lemmas.List.Elements.{all_zip_more, All-get_or}
use Rattle.ckc_tac.specs.declared.code.TacFunc.{TacFunc}
use Rattle.ckc_tac.specs.WellFormed.{IsFunctionOver}
use Rattle.ckc_passes_jumps.specs.Jumps.{FunctionAfter}
use Rattle.ckc_passes_jumps.proofs.program.functions.Goals as goal

pub loop-f-preserved : goal.loop-f-preserved
loop-f-preserved c = λ functions over.
    let fs = c.args.fs.now in
    let i = c.loop-f.f-index in
    let f = c.f-item.result in
    let whole = subst (IsFunctionOver functions) (sym c.f-item.is) (All-get_or (IsFunctionOver functions) fs i f c.loop-f-test.true over) in
    subst (λ (l : List TacFunc). AllZip FunctionAfter (take (i + 1) fs) l) (sym c.in_ok-push.ensures.items)
    (all_zip_more FunctionAfter fs c.loop-f.left.items i f c.in_ok-one.one c.loop-f-test.true c.f-item.is
    (c.loop-f.invariant functions over) (c.in_ok-one.ensures functions whole))
