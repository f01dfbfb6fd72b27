-- Functions that are fine make a program that is well formed and within the limits.
use Rattle.std.proofs.Common.{◌≡◌, ℕ, List, [], ◌∷◌, map, true, Some, refl, sym, ap, ◌∙◌}
use Rattle.std.specs.Prelude.{All}
use Rattle.std.specs.List.{slice_get}
use Rattle.std.proofs.lemmas.List.Elements.{All-map, All-weaker}
use Rattle.ckc_core.specs.declared.code.CoreFunc.{CoreFunc}
use Rattle.ckc_core.specs.declared.code.Core.{Core}
use Rattle.ckc_core.specs.Code.{End, Function, function_of, program_of}
use Rattle.ckc_core.specs.WellFormed.{IsFunctionOver, IsWellFormed}
use Rattle.ckc_core.specs.Limits.{IsSmallFunction}
use Rattle.ckc_test_code.specs.code.Fine.{IsFunction}
use Rattle.ckc_test_code.proofs.Statements.{has_params}

params_of : (fs : List CoreFunc) → map (λ (f : Function). f.params) (map function_of fs) ≡ map (λ (f : CoreFunc). f.params) fs
params_of [] = refl
params_of (f ∷ fs) = ap (λ l. f.params ∷ l) (params_of fs)

pub program_formed : (c : Core) (params : List ℕ) → slice_get params c.main ≡ Some 0 → map (λ (f : CoreFunc). f.params) c.funcs ≡ params → All (IsFunction params) c.funcs → IsWellFormed (program_of c)
program_formed c params first same fine =
    let fs = map function_of c.funcs in
    let given : map (λ (f : Function). f.params) fs ≡ params = params_of c.funcs ∙ same in
    record {
      functions = All-map (IsFunctionOver fs) function_of c.funcs (All-weaker (IsFunction params) (λ f. IsFunctionOver fs (function_of f)) (λ f h. (h.enough, h.body.over fs given End tt)) c.funcs fine);
      main = has_params fs c.main 0 params given first;
    }

pub program_limited : (functions : List CoreFunc) (params : List ℕ) → All (IsFunction params) functions → All IsSmallFunction (map function_of functions)
program_limited functions params fine =
    All-map IsSmallFunction function_of functions (All-weaker (IsFunction params) (λ f. IsSmallFunction (function_of f)) (λ f h. (h.few, h.body.limits End tt)) functions fine)
