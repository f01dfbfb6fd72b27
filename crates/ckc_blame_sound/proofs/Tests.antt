-- Tests of which one side is true.
use Rattle.std.proofs.Common.{◌≡◌, refl, inl, inr}
use Rattle.std.specs.Prelude.{◌⊎◌, Bool, true, false, ◌&&◌, ◌||◌}

pub left_of : (a b : Bool) → a ≡ true → (a || b) ≡ true
left_of a b p = rw p refl

pub right_of : (a b : Bool) → b ≡ true → (a || b) ≡ true
right_of true b p = refl
right_of false b p = p

pub and_of : (a b : Bool) → a ≡ true → b ≡ true → (a && b) ≡ true
and_of a b p q = rw (p, q) refl

-- one side of a test that is true is true
pub either : (a b : Bool) → (a || b) ≡ true → (a ≡ true) ⊎ (b ≡ true)
either true b h = inl refl
either false b h = inr h
