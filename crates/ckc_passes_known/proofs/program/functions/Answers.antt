use Rattle.std.proofs.Common.{◌+◌, List, [], take, sym, subst, arith}
use Rattle.std.specs.List.{AllZip}
use Rattle.std.proofs.lemmas.List.{take_all}
use Rattle.std.proofs.lemmas.List.Elements.{all_zip_more}
use Rattle.ckc_tac.specs.declared.code.TacFunc.{TacFunc}
use Rattle.ckc_passes_known.specs.Known.{FunctionAfter}
use Rattle.ckc_passes_known.proofs.program.functions.Goals as goal

pub loop-f-init : goal.loop-f-init
loop-f-init c = subst (λ (l : List TacFunc). AllZip FunctionAfter [] l) (sym c.new-left.ensures.items) tt

pub loop-f-preserved : goal.loop-f-preserved
loop-f-preserved c =
    let fs = c.args.fs.now in
    let i = c.loop-f.f-index in
    subst (λ (l : List TacFunc). AllZip FunctionAfter (take (i + 1) fs) l) (sym c.in_ok-push.ensures.items)
    (all_zip_more FunctionAfter fs c.loop-f.left.items i c.f-item.result c.in_ok-one.one c.loop-f-test.true c.f-item.is c.loop-f.invariant c.in_ok-one.ensures)

pub returns : goal.returns
returns c =
    let all = take_all c.loop-f.f-index c.args.fs.now (omega arith) in
    subst (λ (l : List TacFunc). AllZip FunctionAfter l c.loop-f.left.items) all c.loop-f.invariant
