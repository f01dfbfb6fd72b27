use Rattle.std.proofs.Common.{◌∙◌, List, refl, sym, subst}
use Rattle.ckc_tac.specs.declared.code.TacFunc.{TacFunc}
use Rattle.ckc_frame.specs.declared.code.Placed.{Placed}
use Rattle.ckc_frame.specs.declared.code.PlacedFunc.{PlacedFunc}
use Rattle.ckc_assign.specs.code.Assigned.{AreAssigned}
use Rattle.ckc_assign.proofs.Assigned.{code_is, whole_is, follows_of, size_is}
use Rattle.ckc_assign.proofs.program.assign.Goals as goal

pub returns : goal.returns
returns c =
    let t = c.args.t.now in
    let p : Placed = record { initial = c.in_ok-initial.initial; funcs = c.from_vec.result; main = t.main } in
    let a : AreAssigned t.funcs p.funcs =
    subst (λ (l : List PlacedFunc). AreAssigned t.funcs l) (sym c.from_vec.ensures)
    (subst (λ (l : List TacFunc). AreAssigned l c.in_ok-funcs.funcs.items) c.as_slice.ensures c.in_ok-funcs.ensures) in
    let e = code_is t p (c.in_ok-initial.ensures ∙ c.as_slice-2.ensures) refl a in
    record {
      code = e;
      whole = whole_is t p e c.requires.whole a;
      apart = a.apart;
      keeps = a.keeps;
      slots = a.slots;
      size = size_is t p e;
      follows = follows_of t p e c.requires.whole a;
    }
