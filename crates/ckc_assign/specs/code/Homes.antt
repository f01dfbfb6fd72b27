-- Homes that a linear scan gives.
use Rattle.std.specs.Prelude.{◌≡◌, ◌≢◌, ◌⊎◌, ℕ, ◌≤◌, ◌<◌, nat_lt, if◌then◌else◌, List, ◌∷◌, length, get_or, All}
use Rattle.std.specs.List.{Contains}
use Rattle.std.specs.List.Sorted.{IsNonDecreasingBy}
use Rattle.ckc_frame.specs.declared.code.Place.{Place}
use Rattle.ckc_frame.specs.declared.code.Place.TheVariants.{Reg, Slot}
use Rattle.ckc_frame.specs.Places.{home}
use Rattle.ckc_frame.specs.WellFormed.{IsPlace}
use Rattle.ckc_assign.specs.Slots.{AreDistinct}
use Rattle.ckc_assign.specs.declared.homes.Start.{Start}
use Rattle.ckc_assign.specs.declared.ranges.Range.{Range}
use Rattle.ckc_assign.specs.code.Ranges.{range_of, Covers, HasRange}

abbrev pub first_home : Range → ℕ → Place
first_home range r = if nat_lt range.last range.first then Reg 0 else Slot r

abbrev pub home_of : List Place → ℕ → Place
home_of homes r = get_or homes r (Slot 0)

-- so many registers have their first homes
pub record AreFirst (ranges : List Range) (count : ℕ) (homes : List Place) : Type 0 where
  pub long : length homes ≡ count
  pub first : (r : ℕ) → r < count → home_of homes r ≡ first_home (range_of ranges r) r

-- the register that a machine register was given to last; a number that no register has, if it was given to none
abbrev pub holder_of : List ℕ → ℕ → ℕ
holder_of holders h = get_or holders h 0

-- Each place is one of a frame. A register in a slot has a range, and the slot is its own. Of two registers with a range
-- at one machine register one has ended before the other begins. A machine register is the home of the register that
-- holds it, and the ranges of the others that have it as their home ended before.
pub record IsScan (ranges : List Range) (holders : List ℕ) (homes : List Place) : Type 0 where
  pub few : length ranges ≤ 4064
  pub long : length homes ≡ length ranges
  pub wide : length holders ≡ 16
  pub places : (r : ℕ) → r < length ranges → IsPlace (home_of homes r)
  pub slots : (r s : ℕ) → r < length ranges → home_of homes r ≡ Slot s → s ≡ r
  pub needed : (r s : ℕ) → r < length ranges → home_of homes r ≡ Slot s → HasRange ranges r
  pub used : (h : ℕ) → h < 16 → holder_of holders h < length ranges → HasRange ranges (holder_of holders h)
  pub here : (h : ℕ) → h < 16 → holder_of holders h < length ranges → home_of homes (holder_of holders h) ≡ Reg h
  pub ended : (r h : ℕ) → r < length ranges → HasRange ranges r → home_of homes r ≡ Reg h
      → (r ≡ holder_of holders h) ⊎ ((range_of ranges r).last < (range_of ranges (holder_of holders h)).first)
  pub apart : (r q h : ℕ) → r < length ranges → q < length ranges → r ≢ q → HasRange ranges r → HasRange ranges q → home_of homes r ≡ Reg h → home_of homes q ≡ Reg h
      → ((range_of ranges r).last < (range_of ranges q).first) ⊎ ((range_of ranges q).last < (range_of ranges r).first)

-- Registers whose ranges have a place in common have two homes.
pub record LieApart (ranges : List Range) (homes : List Place) : Type 0 where
  pub long : length homes ≡ length ranges
  pub places : All IsPlace homes
  pub apart : (r q p : ℕ) → r < length ranges → q < length ranges → r ≢ q → Covers ranges r p → Covers ranges q p → home homes r ≢ home homes q

-- the start of the range of a register
abbrev pub start_of : List Range → ℕ → Start
start_of ranges r = record { first = (range_of ranges r).first; register = r }

-- The list has the starts of the ranges of the first registers, each with the first place of its register's range.
pub record HasStarts (ranges : List Range) (count : ℕ) (starts : List Start) : Type 0 where
  pub all : (r : ℕ) → r < count → HasRange ranges r → Contains starts (start_of ranges r)
  pub first : All (λ (s : Start). s.first ≡ (range_of ranges s.register).first) starts

-- The list has the starts of all ranges, in the order of their places.
pub record IsOrder (ranges : List Range) (order : List Start) : Type 0 where
  pub starts : HasStarts ranges (length ranges) order
  pub sorted : IsNonDecreasingBy (λ (s : Start). s.first) order

-- ranges begin at place 1 or later
abbrev pub BeginLate : List Range → Type 0
BeginLate ranges = (r : ℕ) → HasRange ranges r → 1 ≤ (range_of ranges r).first

-- the ranges that hold machine registers begin at a place at the latest
abbrev pub HaveBegun : List Range → List ℕ → ℕ → Type 0
HaveBegun ranges holders begin =
    (h : ℕ) → h < 16 → holder_of holders h < length ranges → (range_of ranges (holder_of holders h)).first ≤ begin

-- no machine register is free at a place
abbrev pub AreBusy : List Range → List ℕ → ℕ → Type 0
AreBusy ranges holders place = (h : ℕ) → h < length holders → place ≤ (range_of ranges (holder_of holders h)).last

-- At some place of the range of a register more than sixteen ranges meet.
pub record MeetsMany (ranges : List Range) (r : ℕ) : Type 0 where
  pub place : ℕ
  pub here : Covers ranges r place
  pub others : List ℕ
  pub many : length others ≡ 16
  pub distinct : AreDistinct (r ∷ others)
  pub meet : All (λ q. Covers ranges q place) others

-- a register has a slot only if many ranges meet in its own
abbrev pub IsFair : List Range → List Place → ℕ → Type 0
IsFair ranges homes r = (s : ℕ) → r < length ranges → home_of homes r ≡ Slot s → MeetsMany ranges r

-- A register has been given a home: only ranges that have begun hold machine registers, and homes stay fair.
pub record IsGiven (ranges : List Range) (r : ℕ) (holders : List ℕ) (homes : List Place)
    (holders' : List ℕ) (homes' : List Place) : Type 0 where
  pub begun : (p : ℕ) → (range_of ranges r).first ≤ p → HaveBegun ranges holders p → HaveBegun ranges holders' p
  pub kept : (q : ℕ) → IsFair ranges homes q → IsFair ranges homes' q
  pub fair : IsFair ranges homes' r

abbrev pub no_start : Start
no_start = record { first = 0; register = 0 }

-- The first registers of an order have their homes.
pub record HasGiven (ranges : List Range) (order : List Start) (count : ℕ) (holders : List ℕ) (homes : List Place)
    : Type 0 where
  pub scan : IsScan ranges holders homes
  pub begun : (k : ℕ) → count ≤ k → k < length order → HaveBegun ranges holders (get_or order k no_start).first
  pub fair : (k : ℕ) → k < count → IsFair ranges homes (get_or order k no_start).register
