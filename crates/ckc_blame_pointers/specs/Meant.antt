-- What a judged expression comes to in a store in which its point holds.
use Rattle.std.specs.Prelude.{◌≡◌, ◌+◌, ◌==◌, ◌<◌, ◌^◌, ℕ, Bool, not, IfSome, List, length, Result, Ok, Err}
use Rattle.ckc_blame_sound.specs.ckc_bounds_points.specs.Shown.{Known}
use Rattle.ckc_blame_sound.specs.ckc_bounds_views.specs.Parts.{View, capped, fresh_behind}
use Rattle.ckc_blame_sound.specs.ckc_bounds_statements.specs.Paths.{Here}
use Rattle.ckc_source.specs.declared.outcome.Halt.{Halt}
use Rattle.ckc_source.specs.declared.outcome.Halt.TheVariants as halt
use Rattle.ckc_source.specs.declared.outcome.Value.{Value}
use Rattle.ckc_source.specs.Eval.{Store}
use Rattle.ckc_blame_sound.specs.Settings.{Setting}
use Rattle.ckc_blame_sound.specs.Values.{IsWordOf}
use Rattle.ckc_blame_sound.specs.Points.{AreBounded, HoldsAt}
use Rattle.ckc_blame_sound.specs.Bodies.{AreFresh}
use Rattle.ckc_blame_pointers.specs.Valuations.{Valuation, BaseBetween, RangeBetween, Fits, Extends, AreTrueIn, AreNumbers, IsAtPlace, IsInRange, IsReadIn}

-- An evaluation gives a value of which this holds, or stops at a named check. It is not stuck.
abbrev pub IsNotStuck : (Value → Type 0) → Result Value Halt → Type 0
IsNotStuck P (Ok v) = P v
IsNotStuck P (Err (halt.Stopped why at)) = Unit {0}
IsNotStuck P (Err halt.Stuck) = ⊥

-- A pointer is where it is judged to be, under some numbers for the values and the fresh variables of its expression,
-- which are numbered from here on, as many as the expression has. Whatever is numbered after them, it is there by any
-- facts that are true; it may be read within its range, and within the one that it has if other locals are widened, as
-- long as those may be read so; and the fresh variables stand for numbers of their types.
pub record HasPlace (s : Setting) (store : Store) (here : Here) (e : View) (first fresh : ℕ) (before : Valuation)
    (p : Value) : Type 0 where
  pub after : Valuation
  pub extends : Extends first fresh before after
  pub place_between : (facts : Known) → IfSome (e.place first facts) (λ f. BaseBetween first (first + e.values) f.base)
  pub range_between : (widened : List ℕ)
      → RangeBetween first (first + e.values) (e.range first fresh (record here.at { widened = widened }))
  pub place : IsAtPlace s store.locals after e.ctype (e.place first here.at.facts) p.number
  pub range : IsInRange s store after e.ctype (e.range first fresh here.at) p
  pub place_in : (later : Valuation) → Extends (first + e.values) (fresh_behind e fresh here.at) after later
      → (facts : Known) → AreTrueIn later facts → IsAtPlace s store.locals later e.ctype (e.place first facts) p.number
  pub readable : (widened : List ℕ) → AreBounded s store widened here.seen
      → (later : Valuation) → Extends (first + e.values) (fresh_behind e fresh here.at) after later
      → IsReadIn s store later e.ctype (e.range first fresh (record here.at { widened = widened })) p.number
  pub numbers : (later : Valuation) → Extends (first + e.values) (fresh_behind e fresh here.at) after later
      → AreNumbers later.numbers (capped fresh 1) (e.fresh here.at)

-- An expression comes to what it is judged to be at a point: to a word of its type, which is where its place says, and
-- within its range; and on the side that it comes to as a condition, the point that is judged to be there holds.
pub record IsMeant (s : Setting) (store : Store) (entry : List ℕ) (here : Here) (e : View) (p : Value) : Type 0 where
  pub word : IsWordOf e.ctype p.number
  pub placed : (first fresh : ℕ) (before : Valuation) → first + e.values + 1 < 2 ^ 32
      → fresh + length (e.fresh here.at) < 2 ^ 32 → AreFresh s.frame fresh → Fits s.frame store.locals before
      → HasPlace s store here e first fresh before p
  pub sides : (side : Bool) → (p.number == 0) ≡ not side
      → HoldsAt s store entry (record here { at = e.side side here.at })
