use Rattle.std.proofs.Common.{◌∙◌, List, refl, sym, subst}
use Rattle.std.specs.List.{AllZip}
use Rattle.ckc_tac.specs.declared.code.Tac.{Tac}
use Rattle.ckc_tac.specs.declared.code.TacFunc.{TacFunc}
use Rattle.ckc_passes.specs.Passes.{FunctionBecomes, ProgramBecomes}
use Rattle.ckc_passes.specs.code.Forward.{SameAnd}
use Rattle.ckc_passes.proofs.Followed.{follows_pass}
use Rattle.ckc_passes.proofs.Shrunk.{operations_pass, registers_pass, size_pass, whole_pass}
use Rattle.ckc_passes_redundant.specs.Redundant.{redundant_pass}
use Rattle.ckc_passes_redundant.proofs.Environments.{Holds}
use Rattle.ckc_passes_redundant.proofs.Faithful.{faithful, thrifty}
use Rattle.ckc_passes_redundant.proofs.program.redundant.Goals as goal

pub returns : goal.returns
returns c =
    let t = c.args.t.now in
    let after : Tac = record { initial = c.in_ok-initial.initial; funcs = c.from_vec.result; main = t.main } in
    let made : ProgramBecomes redundant_pass t after = record {
      initial = c.in_ok-initial.ensures ∙ c.as_slice-2.ensures;
      main = refl;
      funcs =
          subst (λ (l : List TacFunc). AllZip (FunctionBecomes redundant_pass) t.funcs l) (sym c.from_vec.ensures)
          (subst (λ (l : List TacFunc). AllZip (FunctionBecomes redundant_pass) l c.in_ok-funcs.funcs.items) c.as_slice.ensures c.in_ok-funcs.ensures);
    } in
    record {
      exact = made;
      whole = whole_pass redundant_pass thrifty t after made c.requires;
      registers = registers_pass redundant_pass t after made;
      operations = operations_pass redundant_pass t after made;
      size = size_pass redundant_pass thrifty t after made;
      follows = follows_pass redundant_pass (SameAnd Holds) faithful t after made c.requires;
    }
