use Rattle.std.proofs.Common.{◌≡◌, ◌++◌, map, drop}
use Rattle.ckc_source.specs.Code.{function_of}
use Rattle.ckc_build_elaborate.specs.Lists.{numbered}
use Rattle.ckc_build_elaborate.specs.Functions.{functions_in, functions_elaborated, literals_of_item}
use Rattle.ckc_build_elaborate.proofs.functions.functions.Given as goal

abbrev pub invariant-loop-item : goal.invariant-loop-item
invariant-loop-item l =
    map function_of l.all ++ numbered (functions_in l.typed) literals_of_item l.next (drop l.item-index l.items)
    ≡ functions_elaborated l.typed
