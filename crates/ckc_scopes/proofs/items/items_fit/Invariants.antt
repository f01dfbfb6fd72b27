use Rattle.std.proofs.Common.{◌≡◌, drop}
use Rattle.ckc_base.specs.declared.arithmetic.Mode.TheVariants.{Unchecked}
use Rattle.ckc_typed.specs.Walk.{spots_of_items}
use Rattle.ckc_scopes.specs.code.Verdict.{verdict}
use Rattle.ckc_scopes.proofs.items.items_fit.Given as goal

-- what is left gives what the whole gives
abbrev pub invariant-loop-item : goal.invariant-loop-item
invariant-loop-item l =
    verdict l.items (spots_of_items Unchecked l.items) ≡ verdict l.items (spots_of_items l.pragma (drop l.item-index l.items))
