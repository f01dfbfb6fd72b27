use Rattle.std.proofs.Common.{◌≡◌, ◌∙◌, ◌+◌, List, [], ◌∷◌, ◌++◌, take, sym, ap, subst}
use Rattle.std.proofs.lemmas.List.{take_more}
use Rattle.ckc_tac.specs.declared.code.TacFunc.{TacFunc}
use Rattle.ckc_frame.specs.declared.code.PlacedFunc.{PlacedFunc}
use Rattle.ckc_assign.specs.code.Assigned.{AreAssigned}
use Rattle.ckc_assign.proofs.Assigned.{none_assigned, one_assigned}
use Rattle.ckc_assign.proofs.program.functions.Goals as goal

pub loop-f-init : goal.loop-f-init
loop-f-init c = subst (λ (l : List PlacedFunc). AreAssigned [] l) (sym c.new-placed.ensures.items) none_assigned

pub loop-f-preserved : goal.loop-f-preserved
loop-f-preserved c =
    let fs = c.args.fs.now in
    let i = c.loop-f.f-index in
    let f = c.f-item.result in
    let more : take (i + 1) fs ≡ take i fs ++ f ∷ [] = take_more fs i f c.loop-f-test.true ∙ ap (λ (g : TacFunc). take i fs ++ g ∷ []) (sym c.f-item.is) in
    subst (λ (l : List TacFunc). AreAssigned l c.push.new.self.items) (sym more)
    (subst (λ (l : List PlacedFunc). AreAssigned (take i fs ++ f ∷ []) l) (sym c.in_ok-push.ensures.items)
    (one_assigned (take i fs) c.loop-f.placed.items f c.in_ok-one.one c.loop-f.invariant c.in_ok-one.ensures))
