use Rattle.std.proofs.Common.{◌≡◌, ◌∙◌, List, map, refl, sym, ap, subst}
use Rattle.ckc_tac.specs.declared.code.Tac.{Tac}
use Rattle.ckc_tac.specs.declared.code.TacFunc.{TacFunc}
use Rattle.ckc_passes.specs.Passes.{ProgramBecomes}
use Rattle.ckc_passes.specs.Rewrites.{pass_by}
use Rattle.ckc_passes.specs.code.Forward.{SameAnd}
use Rattle.ckc_passes.proofs.Rewritten.{made_by}
use Rattle.ckc_passes.proofs.Followed.{follows_pass}
use Rattle.ckc_passes.proofs.Shrunk.{whole_pass, registers_pass, operations_pass, size_pass}
use Rattle.ckc_passes_fold.specs.Folded.{folds, folded}
use Rattle.ckc_passes_fold.specs.code.Tables.{function_with}
use Rattle.ckc_passes_fold.proofs.Numbering.{functions_same}
use Rattle.ckc_passes_fold.proofs.Folding.{Has, fold_faithful, fold_thrifty}
use Rattle.ckc_passes_fold.proofs.program.fold.Goals as goal

pub returns : goal.returns
returns c =
    let t = c.args.t.now in
    let whole = c.requires.whole in
    let after : Tac = record { initial = c.in_ok-initial.initial; funcs = c.from_vec.result; main = t.main } in
    let initial = c.in_ok-initial.ensures ∙ c.as_slice-2.ensures in
    let funcs = c.from_vec.ensures ∙ c.in_ok-funcs.ensures ∙ ap (map function_with) c.as_slice.ensures ∙ functions_same t.funcs t.funcs whole.functions in
    let exact : after ≡ folded t =
    ap (λ l. let u : Tac = record { initial = l; funcs = c.from_vec.result; main = t.main } in u) initial
    ∙ ap (λ (l : List TacFunc). let u : Tac = record { initial = t.initial; funcs = l; main = t.main } in u) funcs in
    let made : ProgramBecomes (pass_by folds) t after = subst (λ (u : Tac). ProgramBecomes (pass_by folds) t u) (sym exact) (made_by folds t) in
    record {
      exact = exact;
      whole = whole_pass (pass_by folds) fold_thrifty t after made whole;
      registers = registers_pass (pass_by folds) t after made;
      operations = operations_pass (pass_by folds) t after made;
      size = size_pass (pass_by folds) fold_thrifty t after made;
      follows = follows_pass (pass_by folds) (SameAnd Has) fold_faithful t after made whole;
    }
