use Rattle.std.proofs.Common.{◌≡◌, map, take}
use Rattle.std.specs.Prelude.{All}
use Rattle.ckc_core.specs.declared.code.CoreFunc.{CoreFunc}
use Rattle.ckc_test_code.specs.code.Fine.{IsFunction}
use Rattle.ckc_test_code.proofs.programs.functions.Given as goal

abbrev pub invariant-loop-count : goal.invariant-loop-count
invariant-loop-count l = record {
  same : map (λ (f : CoreFunc). f.params) l.funcs ≡ take l.count-index l.params;
  fine : All (IsFunction l.params) l.funcs;
}
