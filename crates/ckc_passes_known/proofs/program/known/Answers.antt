use Rattle.std.proofs.Common.{◌∙◌, List, refl, sym, subst}
use Rattle.std.specs.List.{AllZip}
use Rattle.ckc_tac.specs.declared.code.Tac.{Tac}
use Rattle.ckc_tac.specs.declared.code.TacFunc.{TacFunc}
use Rattle.ckc_passes_known.specs.Known.{FunctionAfter, ProgramAfter}
use Rattle.ckc_passes_known.proofs.Followed.{follows_known}
use Rattle.ckc_passes_known.proofs.Shrunk.{operations_known, registers_known, size_known, whole_known}
use Rattle.ckc_passes_known.proofs.program.known.Goals as goal

pub returns : goal.returns
returns c =
    let t = c.args.t.now in
    let after : Tac = record { initial = c.in_ok-initial.initial; funcs = c.from_vec.result; main = t.main } in
    let made : ProgramAfter t after = record {
      initial = c.in_ok-initial.ensures ∙ c.as_slice-2.ensures;
      main = refl;
      funcs =
          subst (λ (l : List TacFunc). AllZip FunctionAfter t.funcs l) (sym c.from_vec.ensures)
          (subst (λ (l : List TacFunc). AllZip FunctionAfter l c.in_ok-funcs.funcs.items) c.as_slice.ensures c.in_ok-funcs.ensures);
    } in
    record {
      exact = made;
      whole = whole_known t after made c.requires;
      registers = registers_known t after made;
      operations = operations_known t after made;
      size = size_known t after made;
      follows = follows_known t after made c.requires;
    }
