use Rattle.std.proofs.Common.{◌≡◌, ◌++◌, drop, map}
use Rattle.ckc_core.specs.Code.{function_of as core_function}
use Rattle.ckc_source.specs.Code.{function_of as source_function}
use Rattle.ckc_checks_follow.specs.code.Inserted.{function_code}
use Rattle.ckc_checks.proofs.program.functions.Given as goal

abbrev pub invariant-loop-f : goal.invariant-loop-f
invariant-loop-f l =
    map core_function l.done ++ map function_code (map source_function (drop l.f-index l.funcs))
    ≡ map function_code (map source_function l.funcs)
