-- Which facts follow from others, as functions (see the chains of facts, which say the same without an order of search).
use Rattle.std.specs.Prelude.{ℕ, zero, suc, ◌+◌, ◌^◌, ◌==◌, nat_lt, Bool, ◌&&◌, ◌||◌, List, ℤ, pos, neg_ℤ, ◌-ℤ◌, int_le}
use Rattle.std.specs.List.{list_any}
use Rattle.ckc_linear.specs.declared.facts.Fact.{Fact}
use Rattle.ckc_linear.specs.declared.facts.Facts.{Facts}

-- facts over the variables below vars
pub record Known : Type 0 where
  pub vars : ℕ
  pub list : List Fact

abbrev pub known : Facts → Known
known facts = record { vars = facts.vars; list = facts.list }

-- a number from -limit to limit
abbrev pub is_within : ℕ → ℤ → Bool
is_within limit n = int_le (neg_ℤ (pos limit)) n && int_le n (pos limit)

-- A walk over at most so many of the facts leads from x to y, and its numbers sum to at most c.
unfoldable pub reaches : ℕ → List Fact → ℕ → ℕ → ℤ → Bool
reaches zero facts x y c = (x == y) && int_le (pos 0) c
reaches (suc most) facts x y c =
    ((x == y) && int_le (pos 0) c) || list_any (λ f. (f.x == x) && reaches most facts f.y y (c -ℤ f.c)) facts

-- The fact follows from others by a chain, if its variables are there and its number is within 2^50 either way. From
-- `i - n <= -1` and `n - 0 <= 8` follows `i - 0 <= 7`.
abbrev pub is_shown : Known → Fact → Bool
is_shown facts f =
    nat_lt f.x facts.vars && (nat_lt f.y facts.vars && (is_within (2 ^ 50) f.c && reaches (facts.vars + 1) facts.list f.x f.y f.c))
