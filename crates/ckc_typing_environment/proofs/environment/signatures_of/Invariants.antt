use Rattle.std.proofs.Common.{◌≡◌, ◌∷◌, take}
use Rattle.std.specs.List.{flat_map}
use Rattle.ckc_typed.specs.Environment.{getchar, putchar, signatures_of_item}
use Rattle.ckc_typing_environment.proofs.environment.signatures_of.Given as goal

-- the functions of the items so far
abbrev pub invariant-loop-item : goal.invariant-loop-item
invariant-loop-item l = l.all ≡ getchar ∷ putchar ∷ flat_map signatures_of_item (take l.item-index l.items)
