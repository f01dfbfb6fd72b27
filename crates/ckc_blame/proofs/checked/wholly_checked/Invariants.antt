use Rattle.std.proofs.Common.{◌≡◌, drop}
use Rattle.ckc_syntax.specs.Inside.{all_have, inside_each}
use Rattle.ckc_blame.specs.Checked.{checked_text, checked_item}
use Rattle.ckc_blame.proofs.checked.wholly_checked.Given as goal

-- what is left is checked exactly if the whole is
abbrev pub invariant-loop-item : goal.invariant-loop-item
invariant-loop-item l = checked_text l.p ≡ inside_each all_have checked_item (drop l.item-index l.p.tree.items)
