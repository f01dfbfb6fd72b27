use Rattle.std.proofs.Common.{◌≡◌, take, max, fold}
use Rattle.ckc_typed.specs.Layouts.{tags_to}
use Rattle.ckc_typing_statics.proofs.layouts.tag_count.Given as goal

-- the tags of the items so far
abbrev pub invariant-loop-item : goal.invariant-loop-item
invariant-loop-item l = l.count ≡ fold (λ n i. max n (tags_to i)) 0 (take l.item-index l.items)
