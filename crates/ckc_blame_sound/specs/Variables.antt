-- Numbers of variables that agree with the values of the locals.
use Rattle.std.specs.Prelude.{◌≡◌, ◌⊎◌, ℕ, ◌+◌, true, List, ℤ, Some}
use Rattle.std.specs.List.{All}
use Rattle.ckc_linear.specs.Facts.{Satisfies}
use Rattle.ckc_typed.specs.Types.{is_integer}
use Rattle.ckc_bounds.specs.ckc_bounds_points.specs.declared.frame.Local.{Local}
use Rattle.ckc_bounds.specs.ckc_bounds_points.specs.declared.frame.Frame.{Frame}
use Rattle.ckc_bounds.specs.ckc_bounds_points.specs.Shown.{Known}
use Rattle.ckc_bounds.specs.ckc_bounds_points.specs.Frames.{local_at}
use Rattle.ckc_blame_sound.specs.Values.{value}

-- the variable 0, or that of an integer local; no other variable stands in facts and in forms of integers
abbrev pub IsKnownVariable : Frame → ℕ → Type 0
IsKnownVariable frame x =
    (x ≡ 0) ⊎ ((k : ℕ) × (l : Local) × (x ≡ k + 1) × (local_at frame k ≡ Some l) × (is_integer l.ctype ≡ true))

-- These have their own numbers. Fresh variables may have any.
abbrev pub HaveValues : Frame → List ℕ → (ℕ → ℤ) → Type 0
HaveValues frame locals numbers = (x : ℕ) → IsKnownVariable frame x → numbers x ≡ value frame locals x

-- Facts are true of these numbers of variables.
abbrev pub AreTrueBy : (ℕ → ℤ) → Known → Type 0
AreTrueBy numbers facts = All (Satisfies numbers) facts.list
