-- Parts of lists.
use Rattle.std.proofs.Common.{◌≡◌, ℕ, suc, ◌<◌, List, [], ◌∷◌, length, get_or, sym, subst, arith}
use Rattle.std.specs.Prelude.{map, All}
use Rattle.std.proofs.lemmas.List.Elements.{All-head, All-tail}

-- what holds of what f makes of each element holds of it for one
pub All-mapped_at : {X Y : Type 0} (P : Y → Type 0) (f : X → Y) (xs : List X) (i : ℕ) (x : X) → i < length xs → x ≡ get_or xs i x → All P (map f xs) → P (f x)
All-mapped_at P f [] i x h e all = absurd (omega arith)
All-mapped_at P f (y ∷ xs) ℕ.zero x h e all = subst (λ z. P (f z)) (sym e) (All-head P (f y) (map f xs) all)
All-mapped_at P f (y ∷ xs) (suc i) x h e all = All-mapped_at P f xs i x (omega arith) e (All-tail P (f y) (map f xs) all)
