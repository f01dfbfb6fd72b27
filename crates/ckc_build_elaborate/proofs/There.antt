-- A function that is defined has a number below how many there are.
use Rattle.std.proofs.Common.{◌≡◌, ◌<◌, ℕ, suc, ◌+◌, Bool, true, false, List, [], ◌∷◌, length, inl, inr, arith}
use Rattle.std.specs.Prelude.{◌⊎◌, if◌then◌else◌}
use Rattle.ckc_syntax.specs.declared.tree.Name.{Name}
use Rattle.ckc_syntax.specs.declared.tree.Item.TheVariants as item
use Rattle.ckc_typed.specs.declared.typed.Typed.{Typed}
use Rattle.ckc_typed.specs.Trees.{NotedItem}
use Rattle.ckc_typed.specs.Environment.{same_name}
use Rattle.ckc_build_elaborate.specs.Names.{number_of}
use Rattle.ckc_build_elaborate.specs.Lists.{numbered}
use Rattle.ckc_build_elaborate.specs.Functions.{functions_in, literals_of_item}
use Rattle.ckc_build_elaborate.specs.Bodies.{IsDefined}

false_is_true : ◌≡◌ {A = Bool} false true → ⊥
false_is_true e = cc

step : {X : Type 0} (b : Bool) (m k : ℕ) → (b ≡ true) ⊎ X → (X → m < k) → (if b then 0 else m + 1) < suc k
step true m k d f = omega arith
step false m k (inl e) f = absurd (false_is_true e)
step false m k (inr x) f = let l : m < k = f x in omega arith

other : {X : Type 0} → ◌≡◌ {A = Bool} false true ⊎ X → X
other (inl e) = absurd (false_is_true e)
other (inr x) = x

pub is_there : (p : Typed) (n : Name) (k : ℕ) (items : List NotedItem) → IsDefined n items → number_of n items < length (numbered (functions_in p) literals_of_item k items)
is_there p n k [] d = absurd d
is_there p n k (item.Function h body ∷ rest) d = step (same_name h.name n) (number_of n rest) (length (numbered (functions_in p) literals_of_item (k + literals_of_item (item.Function h body)) rest)) d (is_there p n (k + literals_of_item (item.Function h body)) rest)
is_there p n k (item.Directive i ∷ rest) d = is_there p n (k + literals_of_item (item.Directive i)) rest (other d)
is_there p n k (item.Tag t at ∷ rest) d = is_there p n (k + literals_of_item (item.Tag t at)) rest (other d)
is_there p n k (item.Struct t ms at ∷ rest) d = is_there p n (k + literals_of_item (item.Struct t ms at)) rest (other d)
is_there p n k (item.Static s ∷ rest) d = is_there p n (k + literals_of_item (item.Static s)) rest (other d)
is_there p n k (item.Proto h ∷ rest) d = is_there p n (k + literals_of_item (item.Proto h)) rest (other d)
