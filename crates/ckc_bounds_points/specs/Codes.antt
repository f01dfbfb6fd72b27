-- The codes of the errors of the bounds phase.
use Rattle.std.specs.Prelude.{ℕ}

-- an access or a tested cast with unknown bounds
abbrev pub unknown_bounds : ℕ
unknown_bounds = 601

-- the bounds of a new value do not contain those that it must have
abbrev pub not_contained : ℕ
not_contained = 602

-- declared bounds, or the amount of a bounds cast, have no such form
abbrev pub bad_limits : ℕ
bad_limits = 603

-- a pointer that is not assigned is no longer contained in its bounds, or what the bounds of the function's result name
-- is assigned
abbrev pub lost_bounds : ℕ
lost_bounds = 604

-- a member that takes part in bounds is assigned alone
abbrev pub assigned_alone : ℕ
assigned_alone = 605

-- the address of what takes part in bounds or has declared bounds
abbrev pub bounds_address : ℕ
bounds_address = 606

-- what is no bundle
abbrev pub bad_bundle : ℕ
bad_bundle = 607
