use Rattle.std.proofs.Common.{◌∙◌, List, refl, sym, subst}
use Rattle.std.specs.Prelude.{All}
use Rattle.std.specs.List.{AllZip}
use Rattle.ckc_tac.specs.declared.code.Tac.{Tac}
use Rattle.ckc_tac.specs.declared.code.TacFunc.{TacFunc}
use Rattle.ckc_tac.specs.WellFormed.{IsFunctionOver}
use Rattle.ckc_passes.specs.Passes.{FunctionBecomes, ProgramBecomes}
use Rattle.ckc_passes.proofs.Followed.{follows_pass}
use Rattle.ckc_passes.proofs.Shrunk.{operations_pass, registers_pass, size_pass, whole_pass}
use Rattle.ckc_passes_dead.specs.Dead.{dead_pass}
use Rattle.ckc_passes_dead.proofs.Faithful.{Alike, faithful, thrifty}
use Rattle.ckc_passes_dead.proofs.program.dead.Goals as goal

pub returns : goal.returns
returns c =
    let t = c.args.t.now in
    let after : Tac = record { initial = c.in_ok-initial.initial; funcs = c.from_vec.result; main = t.main } in
    let over = subst (All (IsFunctionOver t.funcs)) (sym c.as_slice.ensures) c.requires.functions in
    let left = c.in_ok-funcs.ensures t.funcs over in
    let funcs = subst (λ (l : List TacFunc). AllZip (FunctionBecomes dead_pass) t.funcs l) (sym c.from_vec.ensures)
    (subst (λ (l : List TacFunc). AllZip (FunctionBecomes dead_pass) l c.in_ok-funcs.funcs.items) c.as_slice.ensures left) in
    let made : ProgramBecomes dead_pass t after =
    record { initial = c.in_ok-initial.ensures ∙ c.as_slice-2.ensures; main = refl; funcs = funcs } in
    record {
      exact = made;
      whole = whole_pass dead_pass thrifty t after made c.requires;
      registers = registers_pass dead_pass t after made;
      operations = operations_pass dead_pass t after made;
      size = size_pass dead_pass thrifty t after made;
      follows = λ input. follows_pass dead_pass Alike faithful t after made c.requires input;
    }
