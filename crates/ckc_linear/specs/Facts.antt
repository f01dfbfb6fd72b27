-- Facts about integer variables. A fact x - y <= c says that the value of x is at most the value of y plus c.
-- Variable 0 stands for the number zero.
use Rattle.std.specs.Prelude.{ℕ, ◌^◌, ◌<◌, ◌==◌, ◌||◌, Bool, true, false, ℤ, pos, neg_ℤ, ◌+ℤ◌, ◌≤ℤ◌}
use Rattle.ckc_linear.specs.declared.facts.Fact.{Fact}

-- a number from -limit to limit
pub record IsWithin (limit : ℕ) (number : ℤ) : Type 0 where
  pub low : neg_ℤ (pos limit) ≤ℤ number
  pub high : number ≤ℤ pos limit

-- a fact over variables below vars, whose number is within 2^50 either way
pub record IsInRange (vars : ℕ) (f : Fact) : Type 0 where
  pub left : f.x < vars
  pub right : f.y < vars
  pub number : IsWithin (2 ^ 50) f.c

-- the fact holds if the variables have these values
abbrev pub Satisfies : (ℕ → ℤ) → Fact → Type 0
Satisfies value f = value f.x ≤ℤ (value f.y +ℤ f.c)

-- whether the fact has x on its left or on its right
abbrev pub names : ℕ → Fact → Bool
names x f = (f.x == x) || (f.y == x)

-- how the number of a fact changes if x grows by c: whether x is on the left, and on the right
abbrev pub change : Bool → Bool → ℤ → ℤ
change true false c = c
change false true c = neg_ℤ c
change true true c = pos 0
change false false c = pos 0

-- the fact after x has grown by c: c more if x is on the left alone, c less if it is on the right alone
abbrev pub shifted : ℕ → ℤ → Fact → Fact
shifted x c f = record f { c = f.c +ℤ change (f.x == x) (f.y == x) c }
