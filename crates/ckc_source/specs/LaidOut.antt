-- Blocks that lie apart (ISO C11, 6.2.4 and 6.5.9: objects do not overlap).
pub use Rattle.ckc_base.specs.Lists.{AreBytes}
use Rattle.std.specs.Prelude.{ℕ, ◌+◌, ◌≤◌, List, [], ◌∷◌, map}
use Rattle.ckc_base.specs.Memory.{data_end}
use Rattle.ckc_source.specs.Code.{Program}
use Rattle.ckc_source.specs.Blocks.{Block, end_of, block_of, place_behind, first_place}

-- The blocks lie in order from an address on, each begins after the end of the one before it, and the last one ends
-- before a place.
abbrev pub AreApart : ℕ → List Block → ℕ → Type 0
AreApart low [] place = low ≤ place
AreApart low (b ∷ blocks) place = (low ≤ b.base) × AreApart (end_of b + 1) blocks place

-- the blocks hold bytes
abbrev pub HoldBytes : List Block → Type 0
HoldBytes [] = Unit {0}
HoldBytes (b ∷ blocks) = AreBytes b.bytes × HoldBytes blocks

-- the static objects and string literals of a program lie apart in the data region, and begin as bytes
pub record IsLaidOut (p : Program) : Type 0 where
  pub apart : AreApart first_place (map block_of p.objects) (place_behind first_place (map block_of p.objects))
  pub below : place_behind first_place (map block_of p.objects) ≤ data_end
  pub bytes : HoldBytes (map block_of p.objects)
