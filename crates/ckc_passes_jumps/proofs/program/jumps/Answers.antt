use Rattle.std.proofs.Common.{◌∙◌, List, refl, sym, subst}
use Rattle.std.specs.Prelude.{All}
use Rattle.std.specs.List.{AllZip}
use Rattle.ckc_tac.specs.declared.code.Tac.{Tac}
use Rattle.ckc_tac.specs.declared.code.TacFunc.{TacFunc}
use Rattle.ckc_tac.specs.WellFormed.{IsFunctionOver}
use Rattle.ckc_passes_jumps.specs.Jumps.{FunctionAfter, ProgramAfter}
use Rattle.ckc_passes_jumps.proofs.Shrunk.{operations_jumps, registers_jumps, size_jumps, whole_jumps}
use Rattle.ckc_passes_jumps.proofs.Followed.{follows_jumps}
use Rattle.ckc_passes_jumps.proofs.program.jumps.Goals as goal

pub returns : goal.returns
returns c =
    let t = c.args.t.now in
    let after : Tac = record { initial = c.in_ok-initial.initial; funcs = c.from_vec.result; main = t.main } in
    let over = subst (All (IsFunctionOver t.funcs)) (sym c.as_slice.ensures) c.requires.functions in
    let left = c.in_ok-funcs.ensures t.funcs over in
    let made : ProgramAfter t after = record {
      initial = c.in_ok-initial.ensures ∙ c.as_slice-2.ensures;
      main = refl;
      funcs =
          subst (λ (l : List TacFunc). AllZip FunctionAfter t.funcs l) (sym c.from_vec.ensures)
          (subst (λ (l : List TacFunc). AllZip FunctionAfter l c.in_ok-funcs.funcs.items) c.as_slice.ensures left);
    } in
    record {
      exact = made;
      whole = whole_jumps t after made c.requires;
      registers = registers_jumps t after made;
      operations = operations_jumps t after made;
      size = size_jumps t after made;
      follows = λ input. follows_jumps t after made c.requires input;
    }
