use Rattle.std.proofs.Common.{◌≡◌, map, drop}
use Rattle.ckc_typed.specs.Interfaces.{seen}
use Rattle.ckc_bounds.specs.code.Declarations.{with_turns}
use Rattle.ckc_bounds.proofs.locals.add_params.Given as goal

-- what is left gives what the whole gives
abbrev pub invariant-loop-d : goal.invariant-loop-d
invariant-loop-d l =
    with_turns l.frame l.turn l.fn.all (map (seen l.mode) l.ds) ≡ with_turns l.frame l.turn l.all (map (seen l.mode) (drop l.d-index l.ds))
