-- Heads of functions that are the same but for their places.
use Rattle.std.specs.Prelude.{◌≡◌, Bool}
use Rattle.std.specs.Bool.{Decides}
use Rattle.ckc_syntax.specs.Placeless.{placeless_head}
use Rattle.ckc_syntax.proofs.SameHeads as heads
use Rattle.ckc_resolve.specs.Trees.{Head}

-- A truth value that is true exactly when two heads are equal without their places: its type says all that is to be
-- known of it.
abbrev pub equal_heads : (g h : Head) → (b : Bool) × Decides b (placeless_head g ≡ placeless_head h)
equal_heads g h = heads.equal_heads g h

-- whether two heads of functions are the same, places aside
abbrev pub same_head : Head → Head → Bool
same_head g h = (equal_heads g h).0
