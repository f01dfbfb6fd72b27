use Rattle.std.proofs.Common.{◌+◌, List, [], take, sym, subst, arith}
use Rattle.std.specs.List.{AllZip}
use Rattle.std.proofs.lemmas.List.{take_all}
use Rattle.std.proofs.lemmas.List.Elements.{all_zip_more, All-get_or}
use Rattle.ckc_tac.specs.declared.code.TacFunc.{TacFunc}
use Rattle.ckc_tac.specs.WellFormed.{IsFunctionOver}
use Rattle.ckc_passes.specs.Passes.{FunctionBecomes}
use Rattle.ckc_passes_dead.specs.Dead.{dead_pass}
use Rattle.ckc_passes_dead.proofs.program.functions.Goals as goal

pub loop-f-init : goal.loop-f-init
loop-f-init c = λ functions over. subst (λ (l : List TacFunc). AllZip (FunctionBecomes dead_pass) [] l) (sym c.new-after.ensures.items) tt

pub loop-f-preserved : goal.loop-f-preserved
loop-f-preserved c = λ functions over.
    let fs = c.args.fs.now in
    let i = c.loop-f.f-index in
    let f = c.f-item.result in
    let whole = subst (IsFunctionOver functions) (sym c.f-item.is) (All-get_or (IsFunctionOver functions) fs i f c.loop-f-test.true over) in
    subst (λ (l : List TacFunc). AllZip (FunctionBecomes dead_pass) (take (i + 1) fs) l) (sym c.in_ok-push.ensures.items)
    (all_zip_more (FunctionBecomes dead_pass) fs c.loop-f.after.items i f c.in_ok-left.left c.loop-f-test.true c.f-item.is
    (c.loop-f.invariant functions over) (c.in_ok-left.ensures functions whole))

pub returns : goal.returns
returns c = λ functions over.
    let all = take_all c.loop-f.f-index c.args.fs.now (omega arith) in
    subst (λ (l : List TacFunc). AllZip (FunctionBecomes dead_pass) l c.loop-f.after.items) all (c.loop-f.invariant functions over)
