-- What the table of functions with a body keeps.
use Rattle.std.specs.Prelude.{◌≡◌, List, Option}
use Rattle.std.specs.Borrow.{Bor}
use Rattle.std.specs.Option.{option_map}
use Rattle.std.specs.Str.{bytes_eq}
use Rattle.indexmap.specs.IndexMap.{IndexMap, get_by}
use Rattle.ckc_resolve.specs.Spellings.{Spelling}
use Rattle.ckc_resolve.specs.Trees.{Item, Head}
use Rattle.ckc_resolve.specs.Items.{first_head}

-- what a table of heads has under a name
abbrev pub head_at : {S : Type 0} → IndexMap (Bor Spelling) (Bor Head) S → Spelling → Option Head
head_at heads s = option_map (λ h. h.now) (get_by (λ k. bytes_eq s k.now) heads)

-- It has the head of the first function of each name that has a body.
abbrev pub HasFirstHeads : {S : Type 0} → IndexMap (Bor Spelling) (Bor Head) S → List Item → Type 0
HasFirstHeads heads items = (s : Spelling) → head_at heads s ≡ first_head s items
