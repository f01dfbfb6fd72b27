use Rattle.std.proofs.Common.{◌≡◌, ◌++◌, drop, map}
use Rattle.ckc_core.specs.Code.{function_of}
use Rattle.ckc_lower.specs.code.Lowered.{lowered_function}
use Rattle.ckc_lower.proofs.program.functions.Given as goal

abbrev pub invariant-loop-f : goal.invariant-loop-f
invariant-loop-f l = l.done ++ map lowered_function (map function_of (drop l.f-index l.funcs)) ≡ map lowered_function (map function_of l.funcs)
